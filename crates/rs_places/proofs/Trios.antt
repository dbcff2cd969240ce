-- The threes of tokens whose second is a turn, as what is seen of them.
use Rattle.std.proofs.Common.{◌≡◌, ℕ, zero, suc, List, [], ◌∷◌, ◌++◌, map, filter, Bool, true, false, Some, slice_get, if◌then◌else◌, inl, inr, refl, ap}
use Rattle.rs_text.specs.Lexemes.{Lexeme, is_last, signs_of}
use Rattle.rs_text.specs.Signs.{Sign, finish, broken}
use Rattle.rs_text.proofs.Basics.{some_is}
use Rattle.rs_text.proofs.Gaps.{true_or_false}
use Rattle.rs_bodies.specs.declared.dialects.Dialect.{Dialect}
use Rattle.rs_bodies.specs.declared.dialects.Dialect.TheVariants.{Talks}
use Rattle.rs_bodies.specs.Dialects.{turns}
use Rattle.rs_places.specs.Starts.{Trio, trio, trios_behind, is_arrow}
use Rattle.rs_places.proofs.Standing.{AreBehind}
use Rattle.rs_places.proofs.Turns.{found, seen}

-- what is seen of three tokens
abbrev pub seen_of : Dialect → Trio → List Sign
seen_of d t = seen d t.first.sign t.second.sign t.third.sign

-- their second one is an arrow
abbrev pub has_arrow : Trio → Bool
has_arrow t = is_arrow t.second.sign

last_turns : (d : Dialect) (s : Sign) → is_last s ≡ true → turns d s ≡ false
last_turns d finish h = refl
last_turns d (broken k) h = refl
last_turns d _ h = absurd (cc h)

is_last_by : (bytes : List ℕ) (b : Lexeme) → AreBehind bytes b [] → is_last b.sign ≡ true
is_last_by bytes b h = elim (true_or_false (is_last b.sign)) [
  | inl e ↦ e
  | inr e ↦ absurd (h.some e)
]

pub behind_next : (bytes : List ℕ) (b c : Lexeme) (cs : List Lexeme) → AreBehind bytes b (c ∷ cs) → AreBehind bytes c cs
behind_next bytes b c cs h = elim (true_or_false (is_last b.sign)) [
  | inl e ↦ absurd (cc (h.none e))
  | inr e ↦ let l = h.some e in record { none = l.1; some = l.2 }
]

pub arrows_found : (bytes : List ℕ) (ls : List Lexeme) (a b : Lexeme) → AreBehind bytes b ls → map (seen_of Talks) (filter has_arrow (trios_behind ls a b)) ≡ found Talks a.sign (signs_of (b ∷ ls))
arrows_found bytes [] a b h = rw (last_turns Talks b.sign (is_last_by bytes b h)) refl
arrows_found bytes (c ∷ cs) a b h =
    let more = arrows_found bytes cs b c (behind_next bytes b c cs h) in
    elim (true_or_false (is_arrow b.sign)) [
      | inl e ↦ rw e (ap (λ z. seen Talks a.sign b.sign c.sign ∷ z) more)
      | inr e ↦ rw e more
    ]

-- what is seen of one is seen at its place
pub seen_there : (ts : List Trio) (k : ℕ) (x : List Sign) → slice_get (map (seen_of Talks) ts) k ≡ Some x → (t : Trio) × (slice_get ts k ≡ Some t) × (seen_of Talks t ≡ x)
seen_there [] k x h = absurd (cc h)
seen_there (t ∷ ts) zero x h = (t, refl, some_is (seen_of Talks t) x h)
seen_there (t ∷ ts) (suc k) x h = seen_there ts k x h

-- three tokens stand one after the other in a list of tokens
pub record StandAmong (ls : List Lexeme) (t : Trio) : Type 0 where
  pub before : List Lexeme
  pub others : List Lexeme
  pub parts : ls ≡ before ++ t.first ∷ t.second ∷ t.third ∷ others

pick_among : (here : Bool) (a b c : Lexeme) (cs : List Lexeme) (rest : List Trio) (k : ℕ) (t : Trio) → ((k : ℕ) → slice_get rest k ≡ Some t → StandAmong (b ∷ c ∷ cs) t)
    → slice_get (if here then trio a b c ∷ rest else rest) k ≡ Some t → StandAmong (a ∷ b ∷ c ∷ cs) t
pick_among true a b c cs rest zero t more h =
    let same : trio a b c ≡ t = some_is (trio a b c) t h in
    record { before = []; others = cs; parts = ap (λ z. z.first ∷ z.second ∷ z.third ∷ cs) same }
pick_among true a b c cs rest (suc k) t more h = let r = more k h in record { before = a ∷ r.before; others = r.others; parts = ap (λ z. a ∷ z) r.parts }
pick_among false a b c cs rest k t more h = let r = more k h in record { before = a ∷ r.before; others = r.others; parts = ap (λ z. a ∷ z) r.parts }

-- those that are found stand so
pub stands_among : (p : Trio → Bool) (ls : List Lexeme) (a b : Lexeme) (k : ℕ) (t : Trio) → slice_get (filter p (trios_behind ls a b)) k ≡ Some t → StandAmong (a ∷ b ∷ ls) t
stands_among p [] a b k t h = absurd (cc h)
stands_among p (c ∷ cs) a b k t h = pick_among (p (trio a b c)) a b c cs (filter p (trios_behind cs b c)) k t (λ k h. stands_among p cs b c k t h) h
