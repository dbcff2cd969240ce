-- What an ended run says of each role and of each pair of roles.
use Rattle.std.proofs.Common.{◌≡◌, ◌≢◌, ℕ, zero, suc, ◌<◌, true, List, [], ◌∷◌, ◌++◌, Option, Some, None, slice_get, length, subst, arith}
use Rattle.rs_model.specs.Data.{Machine_data}
use Rattle.rs_model.specs.declared.machines.State.TheVariants.{Done}
use Rattle.rs_core.specs.Actors.{Choice, PlaysFrom, KeepsChoice}
use Rattle.rs_core.specs.Configurations.{state_at}
use Rattle.rs_core.specs.Plain.{Moment, Ending, Ended, Stopped, Stuck, PlainFrom, AllDone, Stops, NoneMoves, GoesOn, IsPlain}
use Rattle.rs_core.proofs.Ends.{sound_round}
use Rattle.rs_core.proofs.Fifo.{sents, gots, fifo_start, fifo_story}
use Rattle.rs_core.proofs.Rounds.{Sound, sound_start}
use Rattle.rs_core.proofs.Stands.{machine_at}
use Rattle.rs_core.proofs.Stories.{no_histories}
use Rattle.rs_demos.specs.Acting.{by_demo}
use Rattle.rs_demos.specs.declared.actors.DemoTalker.{DemoTalker}

-- each actor has played its history to the end of its machine, and what was taken is the first part of what was sent
pub record Ran (ms : List Machine_data) (given : ℕ → DemoTalker) (end : Moment DemoTalker) : Type 0 where
  pub plays : (p : ℕ) (m : Machine_data) → slice_get ms p ≡ Some m → PlaysFrom by_demo m m.start (given p) (end.history p) (end.at.at p) (end.actor p)
  pub over : (p : ℕ) (m : Machine_data) → slice_get ms p ≡ Some m → slice_get m.states (end.at.at p) ≡ Some Done
  pub fifo : (a b : ℕ) → a ≢ b → gots a (end.history b) ++ end.at.queue a b ≡ sents b (end.history a)

abbrev EndsWell : List Machine_data → (ℕ → DemoTalker) → ℕ → Ending DemoTalker → Type 0
EndsWell ms given limit (Ended k) = Sound by_demo ms given limit k × ((p : ℕ) → p < length ms → state_at ms k.at p ≡ Some Done)
EndsWell ms given limit (Stopped p k) = Unit {0}
EndsWell ms given limit (Stuck k) = Unit {0}

ends_well : (ms : List Machine_data) (given : ℕ → DemoTalker) (limit : ℕ) (room : Option ℕ) (l : Moment DemoTalker) (o : Ending DemoTalker)
    → Sound by_demo ms given limit l → PlainFrom ms by_demo limit room l o → EndsWell ms given limit o
ends_well ms given limit room _ _ s (AllDone l all) = (s, all)
ends_well ms given limit room _ _ s (Stops p l k moved there ts at) = tt
ends_well ms given limit room _ _ s (NoneMoves p l k there goes ts) = tt
ends_well ms given limit room _ _ s (GoesOn l m o ts rest) =
    ends_well ms given limit room m o (sound_round by_demo ms given limit room (length ms) l m true s ts) rest

pub there : {X : Type 0} (xs : List X) (p : ℕ) (x : X) → slice_get xs p ≡ Some x → p < length xs
there [] p x e = absurd (cc (e))
there (y ∷ ys) zero x e = omega arith
there (y ∷ ys) (suc p) x e = let r = there ys p x e in omega arith

keeps_nothing : (m : Machine_data) (s : ℕ) (x y : DemoTalker) (kept : Option Choice) → slice_get m.states s ≡ Some Done → KeepsChoice by_demo m s x kept y → x ≡ y
keeps_nothing m s x y None d k = k
keeps_nothing m s x y (Some c) d k = absurd (cc (d, k.2))

pub ran : (ms : List Machine_data) (given : ℕ → DemoTalker) (limit : ℕ) (room : Option ℕ) (end : Moment DemoTalker)
    → IsPlain ms by_demo given limit room (Ended end) → Ran ms given end
ran ms given limit room end is =
    let w = ends_well ms given limit room is.first (Ended end) (sound_start by_demo ms given limit is.first is.starts) is.run in
    let done : (p : ℕ) (m : Machine_data) → slice_get ms p ≡ Some m → slice_get m.states (end.at.at p) ≡ Some Done =
    λ p m e. machine_at ms end.at p Done m (w.1 p (there ms p m e)) e in
    record {
      plays = λ p m e.
          let g = w.0.going p m e in
          let same = keeps_nothing m (end.at.at p) g.before (end.actor p) (end.kept p) (done p m e) g.keeps in
          let P : DemoTalker → Type 0 = λ y. PlaysFrom by_demo m m.start (given p) (end.history p) (end.at.at p) y in
          subst P same g.plays;
      over = done;
      fifo = fifo_story ms w.0.told.first end.at w.0.told.events no_histories end.history w.0.told.story (fifo_start ms w.0.told.first w.0.told.starts);
    }

-- the play of role p, from the actor with which it starts
pub playing : (ms : List Machine_data) (given : ℕ → DemoTalker) (end : Moment DemoTalker) (p : ℕ) (m : Machine_data) (x : DemoTalker) → Ran ms given end
    → slice_get ms p ≡ Some m → given p ≡ x → PlaysFrom by_demo m m.start x (end.history p) (end.at.at p) (end.actor p)
playing ms given end p m x r e s =
    let P : DemoTalker → Type 0 = λ z. PlaysFrom by_demo m m.start z (end.history p) (end.at.at p) (end.actor p) in
    subst P s (r.plays p m e)
