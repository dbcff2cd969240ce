-- A text with a gap in front: its tokens stand so many bytes later, and it spells what it spelt.
use Rattle.std.proofs.Common.{◌≡◌, ℕ, ◌+◌, inl, inr, List, [], ◌∷◌, ◌++◌, length, map, drop, refl, sym, ap, ◌∙◌, subst, arith, append_assoc, length-append, Option, Ok}
use Rattle.std.proofs.lemmas.List.{drop-drop}
use Rattle.std.proofs.Math.Seq.{drop-append_seam}
use Rattle.rs_bodies.specs.declared.dialects.Dialect.{Dialect}
use Rattle.rs_bodies.specs.Spells.{SpellsBy, Tree}
use Rattle.rs_derivations.specs.Spells.{SpellsDerivation}
use Rattle.rs_derive.specs.Data.{Derivation_data}
use Rattle.rs_documents.specs.Data.{Document_data}
use Rattle.rs_documents.specs.Documents.{SpellsDocument}
use Rattle.rs_documents.specs.Parts.{PartKind, PartsRead, IsTwice, GoesOn, machine_parts, derivation_parts, parts_with, Stops, Adds}
use Rattle.rs_documents.specs.Spells.{SpellsOwn}
use Rattle.rs_model.specs.Data.{Names_data, Machine_data}
use Rattle.rs_tables.specs.Spells.{SpellsTable}
use Rattle.rs_text.proofs.Nexts.{next_is_next, one_next}
use Rattle.rs_text.specs.Lexemes.{Lexeme, signs_of}
use Rattle.rs_text.specs.Lexing.{next_lexeme}
use Rattle.rs_text.specs.Tokens.{Gap, nothing, blank, comment, gap_bytes, IsGap, EndsLine, IsNext, AreTokens}

-- ---- tokens that stand later

-- the token, so many bytes later
abbrev later : ℕ → Lexeme → Lexeme
later n l = record { sign = l.sign; from = n + l.from; until = n + l.until }

drop_in : (p bytes : List ℕ) (at : ℕ) → drop (length p + at) (p ++ bytes) ≡ drop at bytes
drop_in p bytes at = sym (drop-drop at (length p) (p ++ bytes)) ∙ ap (λ xs. drop at xs) (drop-append_seam p bytes)

next_later : (p bytes : List ℕ) (at : ℕ) (l : Lexeme) → IsNext bytes at l → IsNext (p ++ bytes) (length p + at) (later (length p) l)
next_later p bytes at l h = record {
  gap = h.gap;
  text = h.text;
  behind = h.behind;
  parts = drop_in p bytes at ∙ h.parts;
  between = h.between;
  token = h.token;
  from = omega (arith, h.from);
  until = omega (arith, h.until);
}

-- the next token, so many bytes later
next_is_later : (p bytes : List ℕ) (at : ℕ) → next_lexeme (p ++ bytes) (length p + at) ≡ later (length p) (next_lexeme bytes at)
next_is_later p bytes at = sym (one_next (p ++ bytes) (length p + at) (later (length p) (next_lexeme bytes at)) (next_later p bytes at (next_lexeme bytes at) (next_is_next bytes at)))

none_later : (n : ℕ) (ls : List Lexeme) → ls ≡ [] → map (later n) ls ≡ []
none_later n ls e = ap (λ xs. map (later n) xs) e

tokens_later : (p bytes : List ℕ) (at : ℕ) (ls : List Lexeme) → AreTokens bytes at ls → AreTokens (p ++ bytes) (length p + at) (map (later (length p)) ls)
tokens_later p bytes at [] h = h
tokens_later p bytes at (l ∷ ls) h = (next_later p bytes at l h.0, λ e. none_later (length p) ls (h.1 e), λ e. tokens_later p bytes l.until ls (h.2 e))

parts_later : (n : ℕ) (xs : List Lexeme) (y : Lexeme) (ys : List Lexeme) → map (later n) (xs ++ y ∷ ys) ≡ map (later n) xs ++ later n y ∷ map (later n) ys
parts_later n [] y ys = refl
parts_later n (x ∷ xs) y ys = ap (λ zs. later n x ∷ zs) (parts_later n xs y ys)

signs_later : (n : ℕ) (ls : List Lexeme) → signs_of (map (later n) ls) ≡ signs_of ls
signs_later n [] = refl
signs_later n (l ∷ ls) = ap (λ zs. l.sign ∷ zs) (signs_later n ls)

-- ---- parts that stand later

-- the tokens of a part stand at another place, and so many bytes later
abbrev AreMoved : (n : ℕ) → (bytes : List ℕ) → (at : ℕ) → (long : List ℕ) → (place : ℕ) → Type 0
AreMoved n bytes at long place = (ls : List Lexeme) → AreTokens bytes at ls → AreTokens long place (map (later n) ls)

body_moved : (n : ℕ) (d : Dialect) {X : Type 0} (meaning : Names_data → Tree d → X) (bytes long : List ℕ) (at place : ℕ) (old new : Names_data) (x : X) (until : ℕ)
    → AreMoved n bytes at long place → SpellsBy d meaning bytes at old new x until → SpellsBy d meaning long place old new x (n + until)
body_moved n d meaning bytes long at place old new x until m h = record {
  tree = h.tree;
  lexemes = map (later n) h.lexemes;
  behind = later n h.behind;
  others = map (later n) h.others;
  tokens = subst (λ zs. AreTokens long place zs) (parts_later n h.lexemes h.behind h.others) (m (h.lexemes ++ h.behind ∷ h.others) h.tokens);
  spelt = signs_later n h.lexemes ∙ h.spelt;
  settled = h.settled;
  fits = h.fits;
  names_are = h.names_are;
  meaning_is = h.meaning_is;
  goes_on = ap (λ k. n + k) h.goes_on;
}

table_moved : (n : ℕ) (bytes long : List ℕ) (at place : ℕ) (old new : Names_data) (x : Machine_data) (until : ℕ)
    → AreMoved n bytes at long place → SpellsTable bytes at old new x until → SpellsTable long place old new x (n + until)
table_moved n bytes long at place old new x until m h = record {
  tree = h.tree;
  lexemes = map (later n) h.lexemes;
  behind = later n h.behind;
  others = map (later n) h.others;
  tokens = subst (λ zs. AreTokens long place zs) (parts_later n h.lexemes h.behind h.others) (m (h.lexemes ++ h.behind ∷ h.others) h.tokens);
  spelt = signs_later n h.lexemes ∙ h.spelt;
  fits = h.fits;
  names_are = h.names_are;
  machine_is = h.machine_is;
  goes_on = ap (λ k. n + k) h.goes_on;
}

derivation_moved : (n : ℕ) (bytes long : List ℕ) (at place : ℕ) (old new : Names_data) (x : Derivation_data) (until : ℕ)
    → AreMoved n bytes at long place → SpellsDerivation bytes at old new x until → SpellsDerivation long place old new x (n + until)
derivation_moved n bytes long at place old new x until m h = record {
  tree = h.tree;
  lexemes = map (later n) h.lexemes;
  behind = later n h.behind;
  others = map (later n) h.others;
  tokens = subst (λ zs. AreTokens long place zs) (parts_later n h.lexemes h.behind h.others) (m (h.lexemes ++ h.behind ∷ h.others) h.tokens);
  spelt = signs_later n h.lexemes ∙ h.spelt;
  fits = h.fits;
  names_are = h.names_are;
  derivation_is = h.derivation_is;
  goes_on = ap (λ k. n + k) h.goes_on;
}

-- what a text spells of a kind, it spells so many bytes later behind further bytes
abbrev MovesOn : {A : Type 0} → PartKind A → Type 0
MovesOn {A} kind = (p bytes : List ℕ) (at : ℕ) (old new : Names_data) (x : A) (until : ℕ)
    → kind.Spells bytes at old new x until → kind.Spells (p ++ bytes) (length p + at) old new x (length p + until)

own_later : (p bytes : List ℕ) (at : ℕ) (old new : Names_data) (x : Machine_data) (until : ℕ) → SpellsOwn bytes at old new x until → SpellsOwn (p ++ bytes) (length p + at) old new x (length p + until)
own_later p bytes at old new x until (inl h) = inl (body_moved (length p) _ _ bytes (p ++ bytes) at (length p + at) old new x until (tokens_later p bytes at) h)
own_later p bytes at old new x until (inr h) = inr (table_moved (length p) bytes (p ++ bytes) at (length p + at) old new x until (tokens_later p bytes at) h)

machines_move : MovesOn machine_parts
machines_move p bytes at old new x until h = own_later p bytes at old new x until h

derivations_move : MovesOn derivation_parts
derivations_move p bytes at old new x until h = derivation_moved (length p) bytes (p ++ bytes) at (length p + at) old new x until (tokens_later p bytes at) h

-- the sign of the next token is the same there
sign_later : (p bytes : List ℕ) (at : ℕ) → (next_lexeme (p ++ bytes) (length p + at)).sign ≡ (next_lexeme bytes at).sign
sign_later p bytes at = ap (λ (l : Lexeme). l.sign) (next_is_later p bytes at)

twice_before : {A : Type 0} (p bytes : List ℕ) (names : Names_data) (parts : List (Option A)) (at second : ℕ)
    → IsTwice (p ++ bytes) names parts (length p + at) second → IsTwice bytes names parts at (next_lexeme bytes (next_lexeme bytes at).until).from
twice_before p bytes names parts at second t =
    let until : (next_lexeme (p ++ bytes) (length p + at)).until ≡ length p + (next_lexeme bytes at).until = ap (λ (l : Lexeme). l.until) (next_is_later p bytes at) in
    record {
      name = t.name;
      word = sym (sign_later p bytes (next_lexeme bytes at).until) ∙ (ap (λ k. (next_lexeme (p ++ bytes) k).sign) (sym until) ∙ t.word);
      place = t.place;
      role = t.role;
      part = t.part;
      has = t.has;
      stands = refl;
    }

-- what has come of parts, so many bytes later
abbrev read_later : {A : Type 0} → ℕ → PartsRead A → PartsRead A
read_later n row = record { names = row.names; parts = row.parts; until = n + row.until }

goes_later : {A : Type 0} (kind : PartKind A) (p bytes : List ℕ) (at : ℕ) (names : Names_data) (parts : List (Option A)) (row : PartsRead A)
    → MovesOn kind → GoesOn kind bytes at names parts (Ok row) → GoesOn kind (p ++ bytes) (length p + at) names parts (Ok (read_later (length p) row))
goes_later kind p bytes _ _ _ _ m (Stops at names parts b) = Stops (length p + at) names parts (λ x. b (subst (λ s. kind.Begins s) (sign_later p bytes at) x))
goes_later kind p bytes _ _ _ _ m (Adds at next names new parts part (Ok row) b t s g) =
    Adds (length p + at) (length p + next) names new parts part (Ok (read_later (length p) row))
    (subst (λ s. kind.Begins s) (sym (sign_later p bytes at)) b)
    (λ second w. t (next_lexeme bytes (next_lexeme bytes at).until).from (twice_before p bytes names parts at second w))
    (m p bytes at names new part next s)
    (goes_later kind p bytes next new (parts_with kind parts part) row m g)

-- ---- a gap in front

-- one gap behind the other
abbrev joined_gap : Gap → Gap → Gap
joined_gap nothing h = h
joined_gap (blank b g) h = blank b (joined_gap g h)
joined_gap (comment held g) h = comment held (joined_gap g h)

joined_bytes : (g h : Gap) → gap_bytes (joined_gap g h) ≡ gap_bytes g ++ gap_bytes h
joined_bytes nothing h = refl
joined_bytes (blank b g) h = ap (λ xs. b ∷ xs) (joined_bytes g h)
joined_bytes (comment held g) h = ap (λ xs. 35 ∷ xs) (ap (λ xs. held ++ xs) (joined_bytes g h) ∙ sym (append_assoc held (gap_bytes g) (gap_bytes h)))

joined_is_gap : (g h : Gap) (behind : List ℕ) → IsGap g (gap_bytes h ++ behind) → IsGap h behind → IsGap (joined_gap g h) behind
joined_is_gap nothing h behind x y = y
joined_is_gap (blank b g) h behind x y = (x.0, joined_is_gap g h behind x.1 y)
joined_is_gap (comment held g) h behind x y =
    (x.0, subst (λ bs. EndsLine bs) (sym (append_assoc (gap_bytes g) (gap_bytes h) behind) ∙ ap (λ xs. xs ++ behind) (sym (joined_bytes g h))) x.1, joined_is_gap g h behind x.2 y)

next_behind_gap : (g : Gap) (bytes : List ℕ) (l : Lexeme) → IsGap g bytes → IsNext bytes 0 l → IsNext (gap_bytes g ++ bytes) 0 (later (length (gap_bytes g)) l)
next_behind_gap g bytes l x h =
    let size : length (gap_bytes (joined_gap g h.gap)) ≡ length (gap_bytes g) + length (gap_bytes h.gap) = ap (λ (xs : List ℕ). length xs) (joined_bytes g h.gap) ∙ length-append (gap_bytes g) (gap_bytes h.gap) in
    record {
      gap = joined_gap g h.gap;
      text = h.text;
      behind = h.behind;
      parts = ap (λ xs. gap_bytes g ++ xs) h.parts ∙ (sym (append_assoc (gap_bytes g) (gap_bytes h.gap) (h.text ++ h.behind)) ∙ ap (λ xs. xs ++ (h.text ++ h.behind)) (sym (joined_bytes g h.gap)));
      between = joined_is_gap g h.gap (h.text ++ h.behind) (subst (λ xs. IsGap g xs) h.parts x) h.between;
      token = h.token;
      from = omega (arith, h.from, size);
      until = omega (arith, h.until);
    }

tokens_behind_gap : (g : Gap) (bytes : List ℕ) (ls : List Lexeme) → IsGap g bytes → AreTokens bytes 0 ls → AreTokens (gap_bytes g ++ bytes) 0 (map (later (length (gap_bytes g))) ls)
tokens_behind_gap g bytes [] x h = h
tokens_behind_gap g bytes (l ∷ ls) x h =
    (next_behind_gap g bytes l x h.0, λ e. none_later (length (gap_bytes g)) ls (h.1 e), λ e. tokens_later (gap_bytes g) bytes l.until ls (h.2 e))

pub gap_in_front : (g : Gap) (bytes : List ℕ) (d : Document_data) → IsGap g bytes → SpellsDocument bytes d → SpellsDocument (gap_bytes g ++ bytes) d
gap_in_front g bytes d x h =
    let p = gap_bytes g in
    let front = h.parts.front_is in
    record {
      next = length p + h.next;
      before = h.before;
      end = length p + h.end;
      parts = record {
        front_is = record {
          names = front.names;
          until = length p + front.until;
          protocol_is = body_moved (length p) _ _ bytes (p ++ bytes) 0 0 _ front.names d.protocol front.until (λ ls. tokens_behind_gap g bytes ls x) front.protocol_is;
          machines_are = goes_later machine_parts p bytes front.until front.names _ _ machines_move front.machines_are;
        };
        derivations_are = goes_later derivation_parts p bytes h.next h.before _ _ derivations_move h.parts.derivations_are;
      };
      ends = sign_later p bytes h.end ∙ h.ends;
    }
