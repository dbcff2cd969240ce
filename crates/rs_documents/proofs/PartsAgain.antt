-- Printed parts, one behind the other, are read again.
use Rattle.std.proofs.Common.{◌≡◌, ℕ, suc, ◌+◌, ◌≤◌, List, [], ◌∷◌, ◌++◌, length, map, drop, codes, true, Option, Some, None, option_map, ◌⊎◌, inl, inr, refl, sym, ap, ◌∙◌, subst, arith, slice_get}
use Rattle.std.proofs.Common.{slice_set, append_assoc, length-append}
use Rattle.std.proofs.lemmas.List.{drop-drop}
use Rattle.std.proofs.Math.Seq.{drop-append_seam}
use Rattle.rs_documents.specs.Again.{StandInPlaces}
use Rattle.rs_documents.specs.Parts.{PartKind, NextTokenIs, BeginsAt, IsTwice, PartsRead, GoesOn, Stops, Adds, no_parts, parts_with}
use Rattle.rs_documents.proofs.FewLabels.{longer}
use Rattle.rs_documents.proofs.MachinesAgain.{Renumbers}
use Rattle.rs_documents.proofs.MoreNames.{AreAmong, front_among, back_among, either_among, grown_new, number_kept}
use Rattle.rs_documents.proofs.Parts.{IsKind, good, role_of_twice, row_of}
use Rattle.rs_model.specs.Data.{Names_data}
use Rattle.rs_model.specs.declared.graph.Role.{Role}
use Rattle.rs_model.specs.declared.limits.TheConstants.{MOST_LABELS}
use Rattle.rs_text.proofs.Naming.{grown_append}
use Rattle.rs_text.proofs.Written.{role_is_plain, role_is_word, token_next, word_token}
use Rattle.rs_text.specs.Lexing.{next_lexeme}
use Rattle.rs_text.specs.Names.{names_with, is_among, number_or, place_of}
use Rattle.rs_text.specs.Signs.{Sign, plain, finish}
use Rattle.rs_text.specs.Tokens.{IsToken}
use Rattle.rs_text.specs.Words.{is_role_word}

-- the text is at its end, or begins with a word and a space
abbrev pub Begins : Sign → List ℕ → Type 0
Begins finish text = text ≡ []
Begins (plain word) text = (rest : List ℕ) × (is_role_word word ≡ true) × (text ≡ word ++ (codes " " ++ rest))
Begins _ text = ⊥

-- the next token has the sign, and stands at once
pub record IsNextAtOnce (bytes : List ℕ) (at : ℕ) (sign : Sign) : Type 0 where
  pub stands : NextTokenIs bytes at sign
  pub from : (next_lexeme bytes at).from ≡ at

pub begun : (sign : Sign) (bytes : List ℕ) (at : ℕ) (text : List ℕ) → Begins sign text → drop at bytes ≡ text → IsNextAtOnce bytes at sign
begun finish bytes at text b parts =
    let token : IsToken finish [] [] = (refl, refl) in
    let e = token_next bytes at finish [] [] (parts ∙ b) token in
    record { stands = ap (λ z. z.sign) (sym e); from = ap (λ z. z.from) (sym e) }
begun (plain word) bytes at text b parts =
    let token : IsToken (plain word) word (codes " " ++ b.0)
    = subst (λ (z : Sign). IsToken z word (codes " " ++ b.0)) (role_is_plain word b.1) (word_token word (codes " " ++ b.0) (role_is_word word b.1) refl) in
    let e = token_next bytes at (plain word) word (codes " " ++ b.0) (parts ∙ b.2) token in
    record { stands = ap (λ z. z.sign) (sym e); from = ap (λ z. z.from) (sym e) }
begun _ bytes at text b parts = absurd b

abbrev grown_names : Names_data → List (List ℕ) → Names_data
grown_names old labels = record { roles = old.roles; labels = names_with old.labels labels }

-- a printed part: its labels are known, it begins with a word of its kind, and wherever it stands it is read with older
-- names, as the part with other numbers for its labels
pub record IsPrinted {A : Type 0} (kind : PartKind A) (by : (ℕ → ℕ) → A → A) (names : Names_data) (part : A) (text : List ℕ) (labels : List (List ℕ)) : Type 0 where
  pub known : AreAmong labels names.labels
  pub word : List ℕ
  pub opens : kind.Begins (plain word)
  pub begins : Begins (plain word) text
  pub role : (number : ℕ → ℕ) → kind.role_of (by number part) ≡ kind.role_of part
  pub reads : (bytes : List ℕ) (at : ℕ) (old : Names_data) (behind : List ℕ) (sign : Sign) (number : ℕ → ℕ) → drop at bytes ≡ text ++ behind → Begins sign behind
      → NextTokenIs bytes (at + length text) sign → old.roles ≡ names.roles
      → length (names_with old.labels labels) ≤ MOST_LABELS → Renumbers number names.labels (names_with old.labels labels) labels
      → kind.Spells bytes at old (record { roles = old.roles; labels = names_with old.labels labels }) (by number part) (next_lexeme bytes (at + length text)).from

-- the parts that are there, one behind the other, and their labels in order
abbrev pub ArePrinted : {A : Type 0} → PartKind A → ((ℕ → ℕ) → A → A) → Names_data → List (Option A) → List ℕ → List (List ℕ) → Type 0
ArePrinted kind by names [] text labels = (text ≡ []) × (labels ≡ [])
ArePrinted kind by names (None ∷ parts) text labels = ArePrinted kind by names parts text labels
ArePrinted kind by names (Some part ∷ parts) text labels =
    (line : List ℕ) × (later : List ℕ) × (mine : List (List ℕ)) × (more : List (List ℕ)) × IsPrinted kind by names part line mine × ArePrinted kind by names parts later more × (text ≡ line ++ later)
    × (labels ≡ mine ++ more)

pub printed_known : {A : Type 0} (kind : PartKind A) (by : (ℕ → ℕ) → A → A) (names : Names_data) (parts : List (Option A)) (text : List ℕ) (labels : List (List ℕ))
    → ArePrinted kind by names parts text labels → AreAmong labels names.labels
printed_known kind by names [] text labels h l a = absurd (cc (a, h.1))
printed_known kind by names (None ∷ parts) text labels h l a = printed_known kind by names parts text labels h l a
printed_known kind by names (Some part ∷ parts) text labels h l a =
    either_among l h.2 h.3 (is_among l names.labels ≡ true) (subst (λ (z : List (List ℕ)). is_among l z ≡ true) h.7 a) (h.4.known l) (printed_known kind by names parts h.1 h.3 h.5 l)

-- what begins there: one of them, or what stands behind them
pub record Beginning {A : Type 0} (kind : PartKind A) (sign : Sign) (text : List ℕ) : Type 0 where
  pub own : Sign
  pub word_is : kind.Begins own ⊎ (own ≡ sign)
  pub begins : Begins own text

pub printed_begins : {A : Type 0} (kind : PartKind A) (by : (ℕ → ℕ) → A → A) (names : Names_data) (parts : List (Option A)) (text : List ℕ) (labels : List (List ℕ)) (behind : List ℕ) (sign : Sign)
    → ArePrinted kind by names parts text labels → Begins sign behind → Beginning kind sign (text ++ behind)
printed_begins kind by names [] text labels behind sign h b = record { own = sign; word_is = inr refl; begins = subst (λ (z : List ℕ). Begins sign (z ++ behind)) (sym h.0) b }
printed_begins kind by names (None ∷ parts) text labels behind sign h b = printed_begins kind by names parts text labels behind sign h b
printed_begins kind by names (Some part ∷ parts) text labels behind sign h b =
    let own = h.4.begins in
    let rest : List ℕ = own.0 in
    let all : (h.0 ++ h.1) ++ behind ≡ h.4.word ++ (codes " " ++ (rest ++ (h.1 ++ behind)))
    = append_assoc h.0 h.1 behind ∙ ap (λ (z : List ℕ). z ++ (h.1 ++ behind)) own.2 ∙ append_assoc h.4.word (codes " " ++ rest) (h.1 ++ behind) in
    record { own = plain h.4.word; word_is = inl h.4.opens; begins = (rest ++ (h.1 ++ behind), own.1, ap (λ (z : List ℕ). z ++ behind) h.6 ∙ all) }

-- ---- places

abbrev nones : {A : Type 0} → List (Option A) → List (Option A)
nones {A} parts = map (λ (x : Option A). None) parts

set_here : {A : Type 0} (done rest : List (Option A)) (part : A) → slice_set (done ++ None ∷ rest) (length done) (Some part) ≡ (done ++ Some part ∷ []) ++ rest
set_here [] rest part = refl
set_here (x ∷ done) rest part = ap (λ z. x ∷ z) (set_here done rest part)

none_here : {A : Type 0} (done rest : List (Option A)) → slice_get (done ++ None ∷ rest) (length done) ≡ Some None
none_here [] rest = refl
none_here (x ∷ done) rest = none_here done rest

one_longer : {A : Type 0} (done : List A) (x : A) (k : ℕ) → length (done ++ x ∷ []) + k ≡ length done + suc k
one_longer done x k = let e = length-append done (x ∷ []) in omega (arith, e)

-- each stands in its role's place, where the first of these has this place
abbrev StandFrom : {A : Type 0} → PartKind A → ℕ → List (Option A) → Type 0
StandFrom {A} kind first parts = (k : ℕ) (part : A) → slice_get parts k ≡ Some (Some part) → (kind.role_of part).0 ≡ first + k

later_stand : {A : Type 0} (kind : PartKind A) (done : List (Option A)) (x : Option A) (parts : List (Option A)) → StandFrom kind (length done) (x ∷ parts)
    → StandFrom kind (length (done ++ x ∷ [])) parts
later_stand kind done x parts h k part e = h (suc k) part e ∙ sym (one_longer done x k)

pub behind_text : (bytes : List ℕ) (at : ℕ) (text behind : List ℕ) → drop at bytes ≡ text ++ behind → drop (at + length text) bytes ≡ behind
behind_text bytes at text behind parts = rw (← drop-drop (length text) at bytes, parts) (drop-append_seam text behind)

-- ---- they are read again

abbrev row : {A : Type 0} → ((ℕ → ℕ) → A → A) → (ℕ → ℕ) → Names_data → List (List ℕ) → (done rest : List (Option A)) → ℕ → PartsRead A
row by number old labels done rest until = row_of (grown_names old labels) (done ++ map (option_map (by number)) rest) until

none_goes : {A : Type 0} (kind : PartKind A) (by : (ℕ → ℕ) → A → A) (number : ℕ → ℕ) (bytes : List ℕ) (at : ℕ) (old : Names_data) (done : List (Option A)) (text : List ℕ) → text ≡ []
    → (BeginsAt kind bytes at → ⊥)
    → GoesOn kind bytes at old (done ++ []) (good (row by number old [] done [] (at + length text)))
none_goes {A} kind by number bytes at old done text e never =
    let here : at ≡ at + length text = (let size : length text ≡ 0 = ap length e in omega (arith, size)) in
    subst (λ (z : ℕ). GoesOn kind bytes at old (done ++ []) (good (row by number old [] done [] z))) here (Stops at old (done ++ []) never)

-- the fact that the part's role has none so far
free_here : {A : Type 0} (kind : PartKind A) (i : IsKind kind) (bytes : List ℕ) (at next : ℕ) (old new : Names_data) (done rest : List (Option A)) (part : A) → kind.Spells bytes at old new part next
    → (kind.role_of part).0 ≡ length done
    → (second : ℕ) → IsTwice bytes old (done ++ None ∷ rest) at second → ⊥
free_here kind i bytes at next old new done rest part s place second t =
    let f = role_of_twice bytes at second old (done ++ None ∷ rest) (kind.role_of part) (i.role bytes at old new part next s) t in
    let clash : Some None ≡ Some (Some f.0) = sym (none_here done rest) ∙ ap (slice_get (done ++ None ∷ rest)) (sym place) ∙ f.1 in
    cc clash

pub goes_again : {A : Type 0} (kind : PartKind A) (i : IsKind kind) (by : (ℕ → ℕ) → A → A) (names : Names_data) (number : ℕ → ℕ) (rest : List (Option A)) (text : List ℕ) (labels : List (List ℕ))
    → ArePrinted kind by names rest text labels
    → (bytes : List ℕ) (at : ℕ) (old : Names_data) (done : List (Option A)) (behind : List ℕ) (sign : Sign) → drop at bytes ≡ text ++ behind → Begins sign behind → (kind.Begins sign → ⊥)
    → old.roles ≡ names.roles
    → length (names_with old.labels labels) ≤ MOST_LABELS → Renumbers number names.labels (names_with old.labels labels) labels
    → StandFrom kind (length done) rest → GoesOn kind bytes at old (done ++ nones rest) (good (row by number old labels done rest (at + length text)))
goes_again {A} kind i by names number [] text labels h bytes at old done behind sign parts b never roles few f placed =
    let here : drop at bytes ≡ behind = parts ∙ ap (λ (z : List ℕ). z ++ behind) h.0 in
    let next = begun sign bytes at behind b here in
    subst (λ (z : List (List ℕ)). GoesOn kind bytes at old (done ++ []) (good (row by number old z done [] (at + length text)))) (sym h.1)
    (none_goes kind by number bytes at old done text h.0 (λ s. never (subst kind.Begins next.stands s)))
goes_again {A} kind i by names number (None ∷ rest) text labels h bytes at old done behind sign parts b never roles few f placed =
    let later = goes_again kind i by names number rest text labels h bytes at old (done ++ None ∷ []) behind sign parts b never roles few f (later_stand kind done None rest placed) in
    subst (λ (z : List (Option A)). GoesOn kind bytes at old (done ++ None ∷ nones rest) (good (row_of (grown_names old labels) z (at + length text))))
    (append_assoc done (None ∷ []) (map (option_map (by number)) rest))
    (subst (λ (z : List (Option A)). GoesOn kind bytes at old z (good (row_of (grown_names old labels) ((done ++ None ∷ []) ++ map (option_map (by number)) rest) (at + length text))))
    (append_assoc done (None ∷ []) (nones rest)) later)
goes_again {A} kind i by names number (Some part ∷ rest) text labels h bytes at old done behind sign parts b never roles few f placed =
    let line : List ℕ = h.0 in
    let later : List ℕ = h.1 in
    let mine : List (List ℕ) = h.2 in
    let more : List (List ℕ) = h.3 in
    let own : IsPrinted kind by names part line mine = h.4 in
    let new : Names_data = grown_names old mine in
    let split : names_with old.labels labels ≡ names_with (names_with old.labels mine) more = ap (names_with old.labels) h.7 ∙ grown_append mine more old.labels in
    let numbered : Renumbers number names.labels (names_with (names_with old.labels mine) more) (mine ++ more)
    = λ l a. f l (subst (λ (z : List (List ℕ)). is_among l z ≡ true) (sym h.7) a) ∙ ap (λ (z : List (List ℕ)). number_or (place_of l z)) split in
    let here : drop at bytes ≡ line ++ (later ++ behind) = parts ∙ ap (λ (z : List ℕ). z ++ behind) h.6 ∙ append_assoc line later behind in
    let there : drop (at + length line) bytes ≡ later ++ behind = behind_text bytes at line (later ++ behind) here in
    let s = printed_begins kind by names rest later more behind sign h.5 b in
    let next = begun s.own bytes (at + length line) (later ++ behind) s.begins there in
    let all : length (names_with (names_with old.labels mine) more) ≤ MOST_LABELS = subst (λ (z : List (List ℕ)). length z ≤ MOST_LABELS) split few in
    let part_few = longer more (names_with old.labels mine) in
    let spells' = own.reads bytes at old (later ++ behind) s.own number here s.begins next.stands roles (omega (arith, all, part_few))
    (λ l a. numbered l (front_among l mine more a) ∙ number_kept (names_with old.labels mine) more l (grown_new l mine old.labels a)) in
    let spells : kind.Spells bytes at old new (by number part) (at + length line) = subst (λ (z : ℕ). kind.Spells bytes at old new (by number part) z) next.from spells' in
    let first : (kind.role_of part).0 ≡ length done + 0 = placed 0 part refl in
    let place : (kind.role_of (by number part)).0 ≡ length done = ap (λ (z : Role). z.0) (own.role number) ∙ omega (arith, first) in
    let set : parts_with kind (done ++ None ∷ nones rest) (by number part) ≡ (done ++ Some (by number part) ∷ []) ++ nones rest
    = ap (λ (z : ℕ). slice_set (done ++ None ∷ nones rest) z (Some (by number part))) place ∙ set_here done (nones rest) (by number part) in
    let size : length text ≡ length line + length later = ap length h.6 ∙ length-append line later in
    let until : at + length line + length later ≡ at + length text = omega (arith, size) in
    let done' : List (Option A) = done ++ Some (by number part) ∷ [] in
    let go = goes_again kind i by names number rest later more h.5 bytes (at + length line) new done' behind sign there b never roles all (λ l a. numbered l (back_among l mine more a))
    (λ k x e. placed (suc k) x e ∙ sym (one_longer done (Some (by number part)) k)) in
    let go1 : GoesOn kind bytes (at + length line) new (parts_with kind (done ++ None ∷ nones rest) (by number part)) (good (row by number new more done' rest (at + length line + length later)))
    = subst (λ (z : List (Option A)). GoesOn kind bytes (at + length line) new z (good (row by number new more done' rest (at + length line + length later)))) (sym set) go in
    let whole : GoesOn kind bytes at old (done ++ None ∷ nones rest) (good (row by number new more done' rest (at + length line + length later)))
    = Adds at (at + length line) old new (done ++ None ∷ nones rest) (by number part) (good (row by number new more done' rest (at + length line + length later)))
    (i.begins bytes at old new (by number part) (at + length line) spells)
    (free_here kind i bytes at (at + length line) old new done (nones rest) (by number part) spells place) spells go1 in
    subst (λ (z : ℕ). GoesOn kind bytes at old (done ++ None ∷ nones rest) (good (row_of (grown_names old labels) (done ++ Some (by number part) ∷ map (option_map (by number)) rest) z))) until
    (subst (λ (z : List (Option A)). GoesOn kind bytes at old (done ++ None ∷ nones rest) (good (row_of (grown_names old labels) z (at + length line + length later))))
    (append_assoc done (Some (by number part) ∷ []) (map (option_map (by number)) rest))
    (subst (λ (z : List (List ℕ)). GoesOn kind bytes at old (done ++ None ∷ nones rest)
    (good (row_of (record { roles = old.roles; labels = z }) (done' ++ map (option_map (by number)) rest) (at + length line + length later)))) (sym split) whole))

-- from the first role on
nones_are : {A : Type 0} (parts : List (Option A)) (roles : List (List ℕ)) → length parts ≡ length roles → nones parts ≡ no_parts roles
nones_are [] [] e = refl
nones_are [] (y ∷ ys) e = absurd (omega (arith, e))
nones_are (x ∷ xs) [] e = absurd (omega (arith, e))
nones_are {A} (x ∷ xs) (y ∷ ys) e = ap (λ (z : List (Option A)). None ∷ z) (nones_are xs ys (omega (arith, e)))

pub all_go_again : {A : Type 0} (kind : PartKind A) (i : IsKind kind) (by : (ℕ → ℕ) → A → A) (names : Names_data) (number : ℕ → ℕ) (all : List (Option A)) (text : List ℕ) (labels : List (List ℕ))
    → ArePrinted kind by names all text labels
    → (bytes : List ℕ) (at : ℕ) (old : Names_data) (behind : List ℕ) (sign : Sign) → drop at bytes ≡ text ++ behind → Begins sign behind → (kind.Begins sign → ⊥) → old.roles ≡ names.roles
    → length (names_with old.labels labels) ≤ MOST_LABELS → Renumbers number names.labels (names_with old.labels labels) labels → StandInPlaces kind old.roles all
    → GoesOn kind bytes at old (no_parts old.roles) (good (row_of (record { roles = old.roles; labels = names_with old.labels labels }) (map (option_map (by number)) all) (at + length text)))
all_go_again {A} kind i by names number all text labels h bytes at old behind sign parts b never roles few f placed =
    subst (λ (z : List (Option A)). GoesOn kind bytes at old z (good (row_of (grown_names old labels) (map (option_map (by number)) all) (at + length text)))) (nones_are all old.roles placed.one_each)
    (goes_again kind i by names number all text labels h bytes at old [] behind sign parts b never roles few f (λ k part e. placed.in_place k part e ∙ omega arith))
