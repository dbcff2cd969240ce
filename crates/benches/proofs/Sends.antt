-- What the states of the sessions put and take.
use Rattle.std.proofs.Common.{◌≡◌, ℕ, zero, suc, ◌+◌, ◌<◌, ◌^◌, List, [], ◌∷◌, refl, sym, ap, subst, arith}
use Rattle.std.proofs.lemmas.Bool.{lt-ltb}
use Rattle.rs_model.specs.Data.{Machine_data}
use Rattle.rs_model.specs.Sorts.{HasSort}
use Rattle.rs_model.specs.declared.graph.Role.{Role}
use Rattle.rs_model.specs.declared.values.Sort.TheVariants as sort
use Rattle.rs_model.specs.declared.values.Value.TheVariants as value
use Rattle.rs_core.specs.Choices.{AreWellFormed}
use Rattle.rs_slots.specs.declared.parcels.Parcel.{Parcel}
use Rattle.rs_rings.specs.Acts.{role_of_number, MayPut}
use Rattle.benches.specs.Players.{TakesOne}
use Rattle.benches.specs.Sessions.{arm, machines_of_stream, machines_of_relay, machines_of_rounds, machines_of_swap}
use Rattle.benches.proofs.Safe.{is_stream_fits, is_relay_fits, is_rounds_fit}

-- the parcels with a number, and with none
abbrev pub number : ℕ → ℕ → Parcel
number label n = record { label = record { 0 = label }; value = value.Natural n }

abbrev pub unit : ℕ → Parcel
unit label = record { label = record { 0 = label }; value = value.Unit }

small : (n : ℕ) → n < 2 ^ 63 → HasSort (value.Natural n) sort.Natural
small n l = lt-ltb n (2 ^ 63) l

-- a statement about a session, a role, its state and a parcel, moved to equal ones
moved : (F : List Machine_data → ℕ → ℕ → ℕ → Parcel → Type 0) (ms ms' : List Machine_data) (p p' q q' s s' : ℕ) (x x' : Parcel) → ms ≡ ms' → p ≡ p' → q ≡ q' → s ≡ s' → x ≡ x' → F ms' p' q' s' x'
    → F ms p q s x
moved F ms ms' p p' q q' s s' x x' a b c d e f = subst (λ (z : List Machine_data × ℕ × ℕ × ℕ × Parcel). F z.0 z.1 z.2 z.3 z.4) (λ i. (sym a i, sym b i, sym c i, sym d i, sym e i)) f

taken : (next : ℕ) (ms ms' : List Machine_data) (q q' : ℕ) (p p' : Role) (s s' : ℕ) → ms ≡ ms' → q ≡ q' → p ≡ p' → s ≡ s' → TakesOne ms' q' p' s' next → TakesOne ms q p s next
taken next ms ms' q q' p p' s s' a b c d f = subst (λ (z : List Machine_data × ℕ × Role × ℕ). TakesOne z.0 z.1 z.2 z.3 next) (λ i. (sym a i, sym b i, sym c i, sym d i)) f

pub stream_fits : (ms : List Machine_data) → ms ≡ machines_of_stream → AreWellFormed ms
stream_fits ms is = subst AreWellFormed (sym is) is_stream_fits

pub relay_fits : (ms : List Machine_data) → ms ≡ machines_of_relay → AreWellFormed ms
relay_fits ms is = subst AreWellFormed (sym is) is_relay_fits

pub rounds_fit : (ms : List Machine_data) → ms ≡ machines_of_rounds → AreWellFormed ms
rounds_fit ms is = subst AreWellFormed (sym is) is_rounds_fit

pub stream_puts : (ms : List Machine_data) (p s n : ℕ) (x : Parcel) → ms ≡ machines_of_stream → p ≡ 0 → s ≡ 0 → x ≡ number 0 n → n < 2 ^ 63 → MayPut ms p 1 s x 0
stream_puts ms p s n x a b c d l = moved (λ m i j k z. MayPut m i j k z 0) ms machines_of_stream p 0 1 1 s 0 x (number 0 n) a b refl c d
    record { arms = arm 0 sort.Natural 0 ∷ []; place = 0; arm = arm 0 sort.Natural 0; puts = refl; picks = refl; same_label = refl; has_sort = small n l; goes = refl }

pub stream_takes : (ms : List Machine_data) (q s : ℕ) → ms ≡ machines_of_stream → q ≡ 1 → s ≡ 0 → TakesOne ms q (role_of_number 0) s 0
stream_takes ms q s a b c = taken 0 ms machines_of_stream q 1 (role_of_number 0) (role_of_number 0) s 0 a b refl c record { arm = arm 0 sort.Natural 0; takes = refl; goes = refl }

pub rounds_puts : (ms : List Machine_data) (p q s n : ℕ) (x : Parcel) → ms ≡ machines_of_rounds → p + q ≡ 1 → s ≡ 0 → x ≡ number p n → n < 2 ^ 63 → MayPut ms p q s x 1
rounds_puts ms zero q s n x a b c d l = let one : q ≡ 1 = omega arith in moved (λ m i j k z. MayPut m i j k z 1) ms machines_of_rounds 0 0 q 1 s 0 x (number 0 n) a refl one c d
    record { arms = arm 0 sort.Natural 1 ∷ []; place = 0; arm = arm 0 sort.Natural 1; puts = refl; picks = refl; same_label = refl; has_sort = small n l; goes = refl }
rounds_puts ms (suc zero) q s n x a b c d l = let other : q ≡ 0 = omega arith in moved (λ m i j k z. MayPut m i j k z 1) ms machines_of_rounds 1 1 q 0 s 0 x (number 1 n) a refl other c d
    record { arms = arm 1 sort.Natural 1 ∷ []; place = 0; arm = arm 1 sort.Natural 1; puts = refl; picks = refl; same_label = refl; has_sort = small n l; goes = refl }
rounds_puts ms (suc (suc p)) q s n x a b c d l = absurd (omega arith)

pub rounds_takes : (ms : List Machine_data) (q p s : ℕ) → ms ≡ machines_of_rounds → q + p ≡ 1 → s ≡ 1 → TakesOne ms q (role_of_number p) s 0
rounds_takes ms zero p s a b c = let one : p ≡ 1 = omega arith in taken 0 ms machines_of_rounds 0 0 (role_of_number p) (role_of_number 1) s 1 a refl (ap role_of_number one) c record {
  arm = arm 1 sort.Natural 0;
  takes = refl;
  goes = refl;
}
rounds_takes ms (suc zero) p s a b c = let other : p ≡ 0 = omega arith in taken 0 ms machines_of_rounds 1 1 (role_of_number p) (role_of_number 0) s 1 a refl (ap role_of_number other) c record {
  arm = arm 0 sort.Natural 0;
  takes = refl;
  goes = refl;
}
rounds_takes ms (suc (suc q)) p s a b c = absurd (omega arith)

pub ask_puts : (ms : List Machine_data) (p s n : ℕ) (x : Parcel) → ms ≡ machines_of_relay → p ≡ 1 → s ≡ 0 → x ≡ number 0 n → n < 2 ^ 63 → MayPut ms p 2 s x 1
ask_puts ms p s n x a b c d l = moved (λ m i j k z. MayPut m i j k z 1) ms machines_of_relay p 1 2 2 s 0 x (number 0 n) a b refl c d
    record { arms = arm 0 sort.Natural 1 ∷ []; place = 0; arm = arm 0 sort.Natural 1; puts = refl; picks = refl; same_label = refl; has_sort = small n l; goes = refl }

pub tell_puts : (ms : List Machine_data) (p s n : ℕ) (x : Parcel) → ms ≡ machines_of_relay → p ≡ 1 → s ≡ 2 → x ≡ number 2 n → n < 2 ^ 63 → MayPut ms p 0 s x 0
tell_puts ms p s n x a b c d l = moved (λ m i j k z. MayPut m i j k z 0) ms machines_of_relay p 1 0 0 s 2 x (number 2 n) a b refl c d
    record { arms = arm 2 sort.Natural 0 ∷ []; place = 0; arm = arm 2 sort.Natural 0; puts = refl; picks = refl; same_label = refl; has_sort = small n l; goes = refl }

pub answer_puts : (ms : List Machine_data) (p s n : ℕ) (x : Parcel) → ms ≡ machines_of_relay → p ≡ 2 → s ≡ 1 → x ≡ number 1 n → n < 2 ^ 63 → MayPut ms p 1 s x 0
answer_puts ms p s n x a b c d l = moved (λ m i j k z. MayPut m i j k z 0) ms machines_of_relay p 2 1 1 s 1 x (number 1 n) a b refl c d
    record { arms = arm 1 sort.Natural 0 ∷ []; place = 0; arm = arm 1 sort.Natural 0; puts = refl; picks = refl; same_label = refl; has_sort = small n l; goes = refl }

pub ask_takes : (ms : List Machine_data) (q s : ℕ) → ms ≡ machines_of_relay → q ≡ 1 → s ≡ 1 → TakesOne ms q (role_of_number 2) s 2
ask_takes ms q s a b c = taken 2 ms machines_of_relay q 1 (role_of_number 2) (role_of_number 2) s 1 a b refl c record { arm = arm 1 sort.Natural 2; takes = refl; goes = refl }

pub answer_takes : (ms : List Machine_data) (q s : ℕ) → ms ≡ machines_of_relay → q ≡ 2 → s ≡ 0 → TakesOne ms q (role_of_number 1) s 1
answer_takes ms q s a b c = taken 1 ms machines_of_relay q 2 (role_of_number 1) (role_of_number 1) s 0 a b refl c record { arm = arm 0 sort.Natural 1; takes = refl; goes = refl }

pub hear_takes : (ms : List Machine_data) (q s : ℕ) → ms ≡ machines_of_relay → q ≡ 0 → s ≡ 0 → TakesOne ms q (role_of_number 1) s 0
hear_takes ms q s a b c = taken 0 ms machines_of_relay q 0 (role_of_number 1) (role_of_number 1) s 0 a b refl c record { arm = arm 2 sort.Natural 0; takes = refl; goes = refl }

pub swap_puts : (ms : List Machine_data) (p q s : ℕ) (x : Parcel) → ms ≡ machines_of_swap → p + q ≡ 1 → s ≡ 0 → x ≡ unit p → MayPut ms p q s x 1
swap_puts ms zero q s x a b c d = let one : q ≡ 1 = omega arith in moved (λ m i j k z. MayPut m i j k z 1) ms machines_of_swap 0 0 q 1 s 0 x (unit 0) a refl one c d
    record { arms = arm 0 sort.Unit 1 ∷ []; place = 0; arm = arm 0 sort.Unit 1; puts = refl; picks = refl; same_label = refl; has_sort = refl; goes = refl }
swap_puts ms (suc zero) q s x a b c d = let other : q ≡ 0 = omega arith in moved (λ m i j k z. MayPut m i j k z 1) ms machines_of_swap 1 1 q 0 s 0 x (unit 1) a refl other c d
    record { arms = arm 1 sort.Unit 1 ∷ []; place = 0; arm = arm 1 sort.Unit 1; puts = refl; picks = refl; same_label = refl; has_sort = refl; goes = refl }
swap_puts ms (suc (suc p)) q s x a b c d = absurd (omega arith)

pub swap_takes : (ms : List Machine_data) (q p s : ℕ) → ms ≡ machines_of_swap → q + p ≡ 1 → s ≡ 1 → TakesOne ms q (role_of_number p) s 2
swap_takes ms zero p s a b c = let one : p ≡ 1 = omega arith in taken 2 ms machines_of_swap 0 0 (role_of_number p) (role_of_number 1) s 1 a refl (ap role_of_number one) c record {
  arm = arm 1 sort.Unit 2;
  takes = refl;
  goes = refl;
}
swap_takes ms (suc zero) p s a b c = let other : p ≡ 0 = omega arith in taken 2 ms machines_of_swap 1 1 (role_of_number p) (role_of_number 0) s 1 a refl (ap role_of_number other) c record {
  arm = arm 0 sort.Unit 2;
  takes = refl;
  goes = refl;
}
swap_takes ms (suc (suc q)) p s a b c = absurd (omega arith)
