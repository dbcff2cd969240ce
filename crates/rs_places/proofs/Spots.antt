-- The threes of tokens at which states of a role begin, and what is seen of them.
use Rattle.std.proofs.Common.{◌≡◌, ℕ, zero, suc, ◌==◌, ◌&&◌, List, [], ◌∷◌, ◌++◌, map, filter, Bool, true, false, Option, Some, None, slice_get, if◌then◌else◌, inl, inr, refl, sym, ap, ◌∙◌}
use Rattle.rs_text.specs.Lexemes.{Lexeme, signs_of}
use Rattle.rs_text.specs.Signs.{Sign}
use Rattle.rs_text.proofs.Basics.{some_is}
use Rattle.rs_text.proofs.Gaps.{true_or_false}
use Rattle.rs_places.specs.declared.tokens.Part.{Part}
use Rattle.rs_places.specs.declared.tokens.Part.TheVariants as part
use Rattle.rs_places.specs.declared.tokens.StateStart.{StateStart}
use Rattle.rs_places.specs.Starts.{Trio, PlacedTrio, trio, trios_behind, placed, part_behind, is_mark, is_number, ends_a_row, state_at, if_any, state_starts, offsets_of_role}
use Rattle.rs_places.proofs.Trios.{StandAmong}
use Rattle.rs_places.proofs.Walks.{seen_at, walk}

-- what is of this role
abbrev is_of_role : ℕ → Option StateStart → Bool
is_of_role k None = false
is_of_role k (Some s) = s.role == k

-- a state of this role begins there
abbrev pub is_spot : ℕ → PlacedTrio → Bool
is_spot k t = is_of_role k (state_at t.part t.tokens.first t.tokens.second)

-- at this token
abbrev pub token_in : Part → Trio → Lexeme
token_in (part.Body r) t = t.first
token_in (part.Table r) t = t.second
token_in part.Other t = t.first

abbrev pub spot_token : PlacedTrio → Lexeme
spot_token t = token_in t.part t.tokens

-- its first two signs
abbrev pub seen_in : Part → Trio → List Sign
seen_in (part.Body r) t = t.first.sign ∷ t.second.sign ∷ []
seen_in (part.Table r) t = t.second.sign ∷ t.third.sign ∷ []
seen_in part.Other t = []

abbrev pub spot_seen : PlacedTrio → List Sign
spot_seen t = seen_in t.part t.tokens

-- ---- their offsets

start_if : (k : ℕ) (s : StateStart) (b : Bool) (xs : List StateStart) → offsets_of_role k (if_any (if b then Some s else None) ++ xs)
    ≡ (if is_of_role k (if b then Some s else None) then s.from ∷ offsets_of_role k xs else offsets_of_role k xs)
start_if k s false xs = refl
start_if k s true xs = elim (true_or_false (s.role == k)) [
  | inl e ↦ rw e refl
  | inr e ↦ rw e refl
]

offset_first : (k : ℕ) (p : Part) (t : Trio) (xs : List StateStart) → offsets_of_role k (if_any (state_at p t.first t.second) ++ xs)
    ≡ (if is_of_role k (state_at p t.first t.second) then (token_in p t).from ∷ offsets_of_role k xs else offsets_of_role k xs)
offset_first k (part.Body r) t xs = start_if k (record { role = r; from = t.first.from }) (is_mark t.second.sign) xs
offset_first k (part.Table r) t xs = start_if k (record { role = r; from = t.second.from }) (ends_a_row t.first.sign && is_number t.second.sign) xs
offset_first k part.Other t xs = refl

pub offsets_are : (k : ℕ) (ts : List PlacedTrio) → offsets_of_role k (state_starts ts) ≡ map (λ t. (spot_token t).from) (filter (is_spot k) ts)
offsets_are k [] = refl
offsets_are k (t ∷ ts) = offset_first k t.part t.tokens (state_starts ts) ∙ elim (true_or_false (is_spot k t)) [
  | inl e ↦ rw e (ap (λ z. (spot_token t).from ∷ z) (offsets_are k ts))
  | inr e ↦ rw e (offsets_are k ts)
]

-- ---- what is seen

see_if : (k r : ℕ) (from : ℕ) (b : Bool) (x : List Sign) → (if b then (if r == k then x ∷ [] else []) else []) ≡ (if is_of_role k (if b then Some (record { role = r; from = from }) else None) then x ∷ [] else [])
see_if k r from true x = refl
see_if k r from false x = refl

seen_there : (k : ℕ) (p : Part) (t : Trio) → seen_at k p t.first.sign t.second.sign t.third.sign ≡ (if is_of_role k (state_at p t.first t.second) then seen_in p t ∷ [] else [])
seen_there k (part.Body r) t = see_if k r t.first.from (is_mark t.second.sign) (t.first.sign ∷ t.second.sign ∷ [])
seen_there k (part.Table r) t = see_if k r t.second.from (ends_a_row t.first.sign && is_number t.second.sign) (t.second.sign ∷ t.third.sign ∷ [])
seen_there k part.Other t = refl

pub spots_are : (roles : List (List ℕ)) (k : ℕ) (ls : List Lexeme) (p : Part) (a b : Lexeme) → map spot_seen (filter (is_spot k) (placed roles (trios_behind ls a b) p)) ≡ walk roles k (signs_of ls) p a.sign b.sign
spots_are roles k [] p a b = refl
spots_are roles k (c ∷ cs) p a b =
    let t = trio a b c in
    let q = part_behind roles p t in
    let more = spots_are roles k cs q b c in
    sym (ap (λ z. z ++ walk roles k (signs_of cs) q b.sign c.sign) (seen_there k p t) ∙ sym (elim (true_or_false (is_of_role k (state_at p a b))) [
      | inl e ↦ rw e (ap (λ z. seen_in p t ∷ z) more)
      | inr e ↦ rw e more
    ]))

-- ---- they stand in the text

pick_spot : (here : Bool) (a b c : Lexeme) (cs : List Lexeme) (p : Part) (rest : List PlacedTrio) (k : ℕ) (t : PlacedTrio) → ((k : ℕ) → slice_get rest k ≡ Some t → StandAmong (b ∷ c ∷ cs) t.tokens)
    → slice_get (if here then record { part = p; tokens = trio a b c } ∷ rest else rest) k ≡ Some t → StandAmong (a ∷ b ∷ c ∷ cs) t.tokens
pick_spot true a b c cs p rest zero t more h =
    let mine : PlacedTrio = record { part = p; tokens = trio a b c } in
    let same : mine ≡ t = some_is mine t h in
    record { before = []; others = cs; parts = ap (λ (z : PlacedTrio). z.tokens.first ∷ z.tokens.second ∷ z.tokens.third ∷ cs) same }
pick_spot true a b c cs p rest (suc k) t more h = let r = more k h in record { before = a ∷ r.before; others = r.others; parts = ap (λ z. a ∷ z) r.parts }
pick_spot false a b c cs p rest k t more h = let r = more k h in record { before = a ∷ r.before; others = r.others; parts = ap (λ z. a ∷ z) r.parts }

pub spot_stands : (roles : List (List ℕ)) (q : PlacedTrio → Bool) (ls : List Lexeme) (p : Part) (a b : Lexeme) (k : ℕ) (t : PlacedTrio) → slice_get (filter q (placed roles (trios_behind ls a b) p)) k ≡ Some t
    → StandAmong (a ∷ b ∷ ls) t.tokens
spot_stands roles q [] p a b k t h = absurd (cc h)
spot_stands roles q (c ∷ cs) p a b k t h =
    pick_spot (q (record { part = p; tokens = trio a b c })) a b c cs p (filter q (placed roles (trios_behind cs b c) (part_behind roles p (trio a b c)))) k t
    (λ k h. spot_stands roles q cs (part_behind roles p (trio a b c)) b c k t h) h
