-- The states that begin among the signs of a text, part by part.
use Rattle.std.proofs.Common.{◌≡◌, ℕ, ◌==◌, ◌&&◌, List, [], ◌∷◌, ◌++◌, Bool, true, false, Option, Some, None, if◌then◌else◌, refl, ap, ◌∙◌, codes}
use Rattle.rs_text.specs.Lexemes.{Lexeme}
use Rattle.rs_text.specs.Seen.{plain_text}
use Rattle.rs_text.specs.Signs.{Sign, colon, dot, open_brace}
use Rattle.rs_text.specs.TokenTests.{is_keyword, is_colon, is_open_brace}
use Rattle.rs_places.specs.declared.tokens.Part.{Part}
use Rattle.rs_places.specs.declared.tokens.Part.TheVariants as part
use Rattle.rs_places.specs.Starts.{trio, is_mark, is_number, ends_a_row, body_of, table_of, part_by_name, part_behind}

-- a token of this sign, wherever it stands
abbrev pub bare : Sign → Lexeme
bare s = record { sign = s; from = 0; until = 0 }

-- the part after three signs
abbrev pub next_part : List (List ℕ) → Part → Sign → Sign → Sign → Part
next_part roles p a b c = part_behind roles p (trio (bare a) (bare b) (bare c))

-- what is seen of a state of the role k that begins at three signs: its first sign and the one after it
abbrev pub seen_at : ℕ → Part → Sign → Sign → Sign → List (List Sign)
seen_at k (part.Body r) a b c = if is_mark b then (if r == k then (a ∷ b ∷ []) ∷ [] else []) else []
seen_at k (part.Table r) a b c = if ends_a_row a && is_number b then (if r == k then (b ∷ c ∷ []) ∷ [] else []) else []
seen_at k part.Other a b c = []

-- and of all of its states after two signs in this part
abbrev pub walk : List (List ℕ) → ℕ → List Sign → Part → Sign → Sign → List (List Sign)
walk roles k [] p a b = []
walk roles k (c ∷ cs) p a b = seen_at k p a b c ++ walk roles k cs (next_part roles p a b c) b c

-- ---- where no part is headed

-- the third sign of a heading
abbrev pub opens : Sign → Bool
opens colon = true
opens open_brace = true
opens _ = false

none_if : (x y : Bool) (p q : Part) → (if x && (y && false) then p else q) ≡ q
none_if true true p q = refl
none_if true false p q = refl
none_if false y p q = refl

neither_if : (x y : Bool) (p q o : Part) → (if x && false then p else if y && false then q else o) ≡ o
neither_if true true p q o = refl
neither_if true false p q o = refl
neither_if false true p q o = refl
neither_if false false p q o = refl

pub lone_if : (x : Bool) (p q : Part) → (if x && false then p else q) ≡ q
lone_if true p q = refl
lone_if false p q = refl

named_stays : (roles : List (List ℕ)) (p : Part) (a b c : Sign) (name : Option (List ℕ)) → is_colon c ≡ false → is_open_brace c ≡ false → part_by_name roles p (trio (bare a) (bare b) (bare c)) name ≡ p
named_stays roles p a b c None h k = refl
named_stays roles p a b c (Some name) h k = rw (h, k) (neither_if (is_keyword (codes "machine") a) (is_keyword (codes "table") a) (body_of roles name) (table_of roles name) p)

not_colon : (c : Sign) → opens c ≡ false → is_colon c ≡ false
not_colon colon h = absurd (cc h)
not_colon _ h = refl

not_brace : (c : Sign) → opens c ≡ false → is_open_brace c ≡ false
not_brace open_brace h = absurd (cc h)
not_brace _ h = refl

pub part_stays : (roles : List (List ℕ)) (p : Part) (a b c : Sign) → opens c ≡ false → next_part roles p a b c ≡ p
part_stays roles p a b c h =
    ap (λ z. if is_keyword (codes "bound") a && (is_number b && z) then part.Other else part_by_name roles p (trio (bare a) (bare b) (bare c)) (plain_text b)) (not_brace c h)
    ∙ none_if (is_keyword (codes "bound") a) (is_number b) part.Other (part_by_name roles p (trio (bare a) (bare b) (bare c)) (plain_text b))
    ∙ named_stays roles p a b c (plain_text b) (not_colon c h) (not_brace c h)

pub walk_on : (roles : List (List ℕ)) (k : ℕ) (p : Part) (a b c : Sign) (cs : List Sign) → next_part roles p a b c ≡ p → walk roles k (c ∷ cs) p a b ≡ seen_at k p a b c ++ walk roles k cs p b c
walk_on roles k p a b c cs h = ap (λ z. seen_at k p a b c ++ walk roles k cs z b c) h

none_seen : (x : Bool) (ys : List (List Sign)) → (if x && false then ys else []) ≡ []
none_seen true ys = refl
none_seen false ys = refl

-- no state has its mark or its number there
pub record IsStill (b : Sign) : Type 0 where
  pub no_mark : is_mark b ≡ false
  pub no_number : is_number b ≡ false

pub nothing_seen : (k : ℕ) (p : Part) (a b c : Sign) → IsStill b → seen_at k p a b c ≡ []
nothing_seen k (part.Body r) a b c s = rw s.no_mark refl
nothing_seen k (part.Table r) a b c s = rw s.no_number (none_seen (ends_a_row a) (if r == k then (b ∷ c ∷ []) ∷ [] else []))
nothing_seen k part.Other a b c s = refl

-- a sign that is passed over
pub pass : (roles : List (List ℕ)) (k : ℕ) (p : Part) (a b c : Sign) (cs : List Sign) → IsStill b → opens c ≡ false → walk roles k (c ∷ cs) p a b ≡ walk roles k cs p b c
pass roles k p a b c cs s h = walk_on roles k p a b c cs (part_stays roles p a b c h) ∙ ap (λ z. z ++ walk roles k cs p b c) (nothing_seen k p a b c s)

pub still : IsStill dot
still = record { no_mark = refl; no_number = refl }
