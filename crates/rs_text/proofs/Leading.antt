-- Where tokens lead a reader: to a state, or to a fault.
use Rattle.std.proofs.Common.{◌≡◌, ℕ, List, [], ◌∷◌, ◌++◌, Bool, true, false, ◌&&◌, if◌then◌else◌, nat_le, nat_lt, Option, Some, None, Result, Ok, Err, refl, sym, ◌∙◌, subst}
use Rattle.std.proofs.lemmas.Bool.{le-ltb, lt-ltb, leb-true, leb-false}
use Rattle.rs_text.specs.declared.faults.TextFault.{TextFault}
use Rattle.rs_text.specs.declared.faults.TextKind.{TextKind}
use Rattle.rs_text.specs.declared.faults.TextKind.TheVariants as kind
use Rattle.rs_text.specs.declared.tokens.FaultKind.{FaultKind}
use Rattle.rs_text.specs.declared.tokens.FaultKind.TheVariants as faulty
use Rattle.rs_text.specs.Faults.{kind_of}
use Rattle.rs_text.specs.Lexemes.{Lexeme}
use Rattle.rs_text.specs.Readings.{Automaton, fault, feed_sign}
use Rattle.rs_text.specs.Signs.{Sign}

-- the first of these tokens, or else the one behind them
abbrev pub sign_behind : List Sign → Sign → Sign
sign_behind [] u = u
sign_behind (t ∷ ts) u = t

abbrev pub lexeme : Sign → ℕ → ℕ → Lexeme
lexeme s from until = record { sign = s; from = from; until = until }

-- the token is taken and leads to such a reader, or its fault is such a one
abbrev pub LandsOr : {R : Type 0} → (TextKind → Type 0) → Result R TextFault → (R → Type 0) → Type 0
LandsOr E (Ok d) Q = Q d
LandsOr E (Err e) Q = E e.kind

-- the tokens lead r to such a reader or to such a fault, wherever they stand; u is the token behind them
abbrev pub LeadsOr : {R : Type 0} → Automaton R → (TextKind → Type 0) → List Sign → Sign → (R → Type 0) → R → Type 0
LeadsOr a E [] u Q r = Q r
LeadsOr a E (t ∷ ts) u Q r = (at from until : ℕ) → LandsOr E (feed_sign a t at (lexeme (sign_behind ts u) from until) r) (λ d. LeadsOr a E ts u Q d)

-- the tokens may be at fault, but none is unexpected
abbrev pub NotExpected : TextKind → Type 0
NotExpected (kind.Expected w) = ⊥
NotExpected _ = Unit {0}

abbrev pub Lands : {R : Type 0} → Result R TextFault → (R → Type 0) → Type 0
Lands x Q = LandsOr NotExpected x Q

abbrev pub Leads : {R : Type 0} → Automaton R → List Sign → Sign → (R → Type 0) → R → Type 0
Leads a xs u Q r = LeadsOr a NotExpected xs u Q r

-- the tokens lead to such a reader, or else this holds
abbrev pub Tells : {R : Type 0} → Result R TextFault → Type 0 → (R → Type 0) → Type 0
Tells x N Q = LandsOr (λ k. N) x Q

abbrev pub Exact : {R : Type 0} → Automaton R → List Sign → Sign → Type 0 → (R → Type 0) → R → Type 0
Exact a xs u N Q r = LeadsOr a (λ k. N) xs u Q r

-- these tokens lead o to r, with u behind them
abbrev pub Reached : {R : Type 0} → Automaton R → R → List Sign → Sign → R → Type 1
Reached {R} a o xs u r = (E : TextKind → Type 0) → (Q : R → Type 0) → LeadsOr a E xs u Q o → Q r

pub lands_map : {R : Type 0} (E : TextKind → Type 0) (x : Result R TextFault) (P Q : R → Type 0) → ((d : R) → P d → Q d) → LandsOr E x P → LandsOr E x Q
lands_map E (Ok d) P Q f h = f d h
lands_map E (Err e) P Q f h = h

pub behind_append : (xs ys : List Sign) (u : Sign) → sign_behind (xs ++ ys) u ≡ sign_behind xs (sign_behind ys u)
behind_append [] ys u = refl
behind_append (x ∷ xs) ys u = refl

pub leads_split : {R : Type 0} (a : Automaton R) (E : TextKind → Type 0) (xs ys : List Sign) (u : Sign) (Q : R → Type 0) (r : R) → LeadsOr a E (xs ++ ys) u Q r
    → LeadsOr a E xs (sign_behind ys u) (λ d. LeadsOr a E ys u Q d) r
leads_split a E [] ys u Q r h = h
leads_split a E (t ∷ xs) ys u Q r h =
    λ p f n. subst (λ (z : Sign). LandsOr E (feed_sign a t p (lexeme z f n) r) (λ d. LeadsOr a E xs (sign_behind ys u) (λ d. LeadsOr a E ys u Q d) d)) (behind_append xs ys u)
    (lands_map E (feed_sign a t p (lexeme (sign_behind (xs ++ ys) u) f n) r) (λ d. LeadsOr a E (xs ++ ys) u Q d) (λ d. LeadsOr a E xs (sign_behind ys u) (λ d. LeadsOr a E ys u Q d) d)
    (λ d g. leads_split a E xs ys u Q d g) (h p f n))

pub reach_on : {R : Type 0} (a : Automaton R) (o : R) (xs : List Sign) (t u : Sign) (at from until : ℕ) (r d : R) → Reached a o xs t r → feed_sign a t at (lexeme u from until) r ≡ Ok d
    → Reached a o (xs ++ t ∷ []) u d
reach_on {R} a o xs t u at from until r d reach e = λ E Q h.
    let k : LeadsOr a E (t ∷ []) u Q r = reach E (λ d. LeadsOr a E (t ∷ []) u Q d) (leads_split a E xs (t ∷ []) u Q o h) in
    subst (λ (x : Result R TextFault). LandsOr E x Q) e (k at from until)

-- ---- by a test

pub faulty_calm : (k : FaultKind) → NotExpected (kind_of k)
faulty_calm faulty.BadByte = tt
faulty_calm faulty.NumberTooLarge = tt
faulty_calm faulty.NameTooLong = tt

pub lands_if : {R : Type 0} (c : Bool) (k : TextKind) (at : ℕ) (x : Result R TextFault) (Q : R → Type 0) → NotExpected k → Lands x Q → Lands (if c then fault k at else x) Q
lands_if true k at x Q n h = n
lands_if false k at x Q n h = h

pub tells_if : {R : Type 0} (c : Bool) (k : TextKind) (at : ℕ) (x : Result R TextFault) (N : Type 0) (Q : R → Type 0) → (c ≡ true → N) → (c ≡ false → Tells x N Q)
    → Tells (if c then fault k at else x) N Q
tells_if true k at x N Q n h = n refl
tells_if false k at x N Q n h = h refl

-- this goes on where the test holds, and else the other thing holds
abbrev pub Hangs : Bool → Type 0 → Type 0 → Type 0
Hangs a N K = (a ≡ false → N) × (a ≡ true → K)

pub hangs_first : (a b : Bool) (N K : Type 0) → Hangs (a && b) N K → a ≡ false → N
hangs_first true b N K h e = cc
hangs_first false b N K h e = h.0 refl

pub hangs_then : (a b : Bool) (N K : Type 0) → Hangs (a && b) N K → a ≡ true → Hangs b N K
hangs_then true b N K h e = h
hangs_then false b N K h e = cc

-- both in turn
pub hangs_both : (a b : Bool) (N K : Type 0) → Hangs (a && b) N K → Hangs a N (Hangs b N K)
hangs_both a b N K h = (hangs_first a b N K h, hangs_then a b N K h)

-- two tests of one thing
pub full : (m n : ℕ) → nat_le m n ≡ true → nat_lt n m ≡ false
full m n h = le-ltb n m (leb-true m n h)

pub roomy : (m n : ℕ) → nat_lt n m ≡ true → nat_le m n ≡ true → ⊥
roomy m n h k = absurd (cc (sym h ∙ full m n k))

pub fits_in : (m n : ℕ) → nat_le m n ≡ false → nat_lt n m ≡ true
fits_in m n h = lt-ltb n m (leb-false m n h)

pub calm_if : (c : Bool) (k j : TextKind) (o : Option TextKind) → NotExpected k → (o ≡ Some j → NotExpected j) → (if c then Some k else o) ≡ Some j → NotExpected j
calm_if true k j o n h e = let same : k ≡ j = cc in subst NotExpected same n
calm_if false k j o n h e = h e

pub calm_not : (c : Bool) (k j : TextKind) (o : Option TextKind) → NotExpected k → (o ≡ Some j → NotExpected j) → (if c then o else Some k) ≡ Some j → NotExpected j
calm_not true k j o n h e = h e
calm_not false k j o n h e = let same : k ≡ j = cc in subst NotExpected same n

pub calm_none : (c : Bool) {j : TextKind} {o : Option TextKind} → (o ≡ Some j → NotExpected j) → (if c then None else o) ≡ Some j → NotExpected j
calm_none true h e = absurd (cc e)
calm_none false h e = h e
