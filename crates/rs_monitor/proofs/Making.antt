-- What a list of acts makes, one act after another.
use Rattle.std.proofs.Common.{arith, ◌+◌, IfErr, Result, subst₂, ◌≡◌, ℕ, zero, suc, List, [], ◌∷◌, ◌++◌, Option, Some, None, Ok, Err, slice_get, take, length, refl, ap, subst, sym, ◌∙◌}
use Rattle.std.specs.Result.{IsErrAnd}
use Rattle.rs_core.specs.Configurations.{state_of}
use Rattle.rs_model.specs.Data.{Machine_data}
use Rattle.rs_monitor.specs.Acts.{ProgramAct, IsActOf}
use Rattle.rs_monitor.specs.Nexts.{next_after}
use Rattle.rs_monitor.specs.Traces.{IsUntraced}
use Rattle.rs_monitor.specs.declared.traces.TraceFault.{TraceFault}
use Rattle.rs_monitor.specs.declared.traces.TraceFault.TheVariants.{NoMemory}
use Rattle.rs_monitor.specs.Replays.{DepartsAt, Makes}
use Rattle.rs_monitor.specs.declared.acts.Refusal.{Refusal}
use Rattle.rs_monitor.specs.declared.replaying.Departure.{Departure}
use Rattle.rs_monitor.proofs.Refusing.{lets, refuses}

pub makes_none : (m : Machine_data) (acts : List ProgramAct) (s : ℕ) → Makes m s (take 0 acts) s
makes_none m acts s = refl

pub makes_one : (m : Machine_data) (acts : List ProgramAct) (act : ProgramAct) (s t u : ℕ) → Makes m s acts t → IsActOf (state_of (Some m) t) act u → Makes m s (acts ++ (act ∷ [])) u
makes_one m [] act s t u h is = let P : ℕ → Type 0 = λ z. IsActOf (state_of (Some m) z) act u in (u, subst P (sym h) is, refl)
makes_one m (a ∷ acts) act s t u h is = (h.0, h.1, makes_one m acts act h.0 t u h.2 is)

pub makes_more : (acts : List ProgramAct) (n : ℕ) (m : Machine_data) (act : ProgramAct) (s t u : ℕ) → Makes m s (take n acts) t → slice_get acts n ≡ Some act
    → next_after (state_of (Some m) t) act ≡ Ok u → Makes m s (take (suc n) acts) u
makes_more [] n m act s t u h there leads = absurd (cc (there))
makes_more (a ∷ acts) zero m act s t u h there leads =
    let e : act ≡ a = cc (there) in
    let P : ProgramAct → ℕ → Type 0 = λ z v. IsActOf (state_of (Some m) v) z u in
    let is : IsActOf (state_of (Some m) t) act u = lets (state_of (Some m) t) act u leads in
    let Q : ProgramAct → Type 0 = λ z. IsActOf (state_of (Some m) t) z u in
    let R : ℕ → Type 0 = λ v. IsActOf (state_of (Some m) v) a u in
    (u, subst R (sym h) (subst Q e is), refl)
makes_more (a ∷ acts) (suc n) m act s t u h there leads = (h.0, h.1, makes_more acts n m act h.0 t u h.2 there leads)

pub take_all : (acts : List ProgramAct) → take (length acts) acts ≡ acts
take_all [] = refl
take_all (a ∷ acts) = ap (λ (z : List ProgramAct). a ∷ z) (take_all acts)

pub makes_all : (acts : List ProgramAct) (m : Machine_data) (s t : ℕ) → Makes m s (take (length acts) acts) t → Makes m s acts t
makes_all acts m s t h = let P : List ProgramAct → Type 0 = λ z. Makes m s z t in subst P (take_all acts) h

pub departs : (m : Machine_data) (acts : List ProgramAct) (place at : ℕ) (act : ProgramAct) (refusal : Refusal) → Makes m m.start (take place acts) at → slice_get acts place ≡ Some act
    → next_after (state_of (Some m) at) act ≡ Err refusal → DepartsAt m acts (record { place = place; state = at; refusal = refusal })
departs m acts place at act refusal made there stops = record { act = act; made = made; there = there; refused = refuses (state_of (Some m) at) act refusal stops }

pub makes_next : (acts : List ProgramAct) (n : ℕ) (m : Machine_data) (act : ProgramAct) (s t u : ℕ) → Makes m s (take n acts) t → slice_get acts n ≡ Some act
    → next_after (state_of (Some m) t) act ≡ Ok u → Makes m s (take (n + 1) acts) u
makes_next acts n m act s t u h there leads =
    let e : suc n ≡ n + 1 = omega arith in
    let P : ℕ → Type 0 = λ z. Makes m s (take z acts) u in subst P e (makes_more acts n m act s t u h there leads)

-- where the machine has the act, and it isn't let through, there was no memory
pub by_memory : {A : Type 0} (x : Result A TraceFault) (act : ProgramAct) (next : ℕ) (m n : Machine_data) (s t : ℕ) → m ≡ n → s ≡ t
    → IsErrAnd x (λ e. e ≡ NoMemory) → IsActOf (state_of (Some m) s) act next → IfErr x (IsUntraced (state_of (Some n) t) act)
by_memory (Ok a) act next m n s t em es none is = tt
by_memory (Err e) act next m n s t em es none is =
    let P : Machine_data → ℕ → Type 0 = λ z w. IsActOf (state_of (Some z) w) act next in
    let Q : TraceFault → Type 0 = λ z. IsUntraced (state_of (Some n) t) act z in
    subst Q (sym none) (next, subst₂ P em es is)
