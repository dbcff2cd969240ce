-- Ended runs leave what the demos compute.
use Rattle.std.proofs.Common.{◌≡◌, ℕ, ◌<◌, List, [], ◌∷◌, Option, Some, None, slice_get, length, refl, sym, ap, ◌∙◌, arith}
use Rattle.rs_core.specs.Plain.{Moment, Ended, IsPlain}
use Rattle.rs_core.specs.Runs.{IsGiven, HasActors}
use Rattle.rs_demos.specs.Acting.{by_demo}
use Rattle.rs_demos.specs.Outputs.{bytes_of, output_of}
use Rattle.rs_demos.specs.Results.{Computes, inverse_bytes}
use Rattle.rs_demos.specs.Sessions.{demo_machines, double_kernel, double_source, double_sink, stream_source, stream_sink}
use Rattle.rs_demos.specs.Starts.{StartsWithActors}
use Rattle.rs_demos.specs.declared.actors.DemoTalker.{DemoTalker}
use Rattle.rs_demos.specs.declared.actors.DemoTalker.TheVariants as actor
use Rattle.rs_model.specs.declared.demos.Demo.{Demo}
use Rattle.rs_model.specs.declared.demos.Demo.TheVariants as demo
use Rattle.rs_demos.proofs.Butterflies.{butterfly_run}
use Rattle.rs_demos.proofs.Rings.{ring_run}
use Rattle.rs_demos.proofs.Feeding.{kernel_with, double_computes, stream_computes}
use Rattle.rs_demos.proofs.Ran.{Ran, ran, playing}

given_at : (given : ℕ → DemoTalker) (actors all : List DemoTalker) (p : ℕ) (x : DemoTalker) → actors ≡ all → IsGiven given actors → slice_get all p ≡ Some x → given p ≡ x
given_at given actors all p x e g s = g p x (ap (λ (z : List DemoTalker). slice_get z p) e ∙ s)

double : (bytes : List ℕ) (actors after : List DemoTalker) (given : ℕ → DemoTalker) (end : Moment DemoTalker) (n : ℕ) → StartsWithActors demo.Double bytes actors
    → IsGiven given actors → Ran (demo_machines demo.Double n) given end → HasActors (length actors) end.actor after → bytes_of (slice_get after 2) ≡ inverse_bytes bytes
double bytes actors after given end n s g r has =
    let k = given_at given actors (kernel_with None ∷ actor.Source bytes ∷ actor.Sink [] ∷ []) 0 (kernel_with None) s g refl in
    let so = given_at given actors (kernel_with None ∷ actor.Source bytes ∷ actor.Sink [] ∷ []) 1 (actor.Source bytes) s g refl in
    let t = given_at given actors (kernel_with None ∷ actor.Source bytes ∷ actor.Sink [] ∷ []) 2 (actor.Sink []) s g refl in
    let done = double_computes bytes (end.history 0) (end.history 1) (end.history 2) (end.at.at 0) (end.at.at 1) (end.at.at 2) (end.actor 0) (end.actor 1) (end.actor 2)
    (end.at.queue 1 0) (end.at.queue 0 2) (end.at.queue 2 0)
    (playing (double_kernel ∷ double_source ∷ double_sink ∷ []) given end 0 double_kernel (kernel_with None) r refl k) (r.over 0 double_kernel refl)
    (playing (double_kernel ∷ double_source ∷ double_sink ∷ []) given end 1 double_source (actor.Source bytes) r refl so) (r.over 1 double_source refl)
    (playing (double_kernel ∷ double_source ∷ double_sink ∷ []) given end 2 double_sink (actor.Sink []) r refl t) (r.over 2 double_sink refl)
    (r.fifo 1 0 (λ e. cc (e))) (r.fifo 0 2 (λ e. cc (e))) (r.fifo 2 0 (λ e. cc (e))) in
    let many : 2 < length actors = (let l = ap length s in omega (arith, l)) in
    ap bytes_of (has.each 2 many ∙ ap (λ (z : DemoTalker). Some z) (sym done))

stream : (bytes : List ℕ) (actors after : List DemoTalker) (given : ℕ → DemoTalker) (end : Moment DemoTalker) (n : ℕ) → StartsWithActors demo.Stream bytes actors
    → IsGiven given actors → Ran (demo_machines demo.Stream n) given end → HasActors (length actors) end.actor after → bytes_of (slice_get after 1) ≡ bytes
stream bytes actors after given end n s g r has =
    let so = given_at given actors (actor.Source bytes ∷ actor.Sink [] ∷ []) 0 (actor.Source bytes) s g refl in
    let t = given_at given actors (actor.Source bytes ∷ actor.Sink [] ∷ []) 1 (actor.Sink []) s g refl in
    let done = stream_computes bytes (end.history 0) (end.history 1) (end.at.at 0) (end.at.at 1) (end.actor 0) (end.actor 1) (end.at.queue 0 1)
    (playing (stream_source ∷ stream_sink ∷ []) given end 0 stream_source (actor.Source bytes) r refl so) (r.over 0 stream_source refl)
    (playing (stream_source ∷ stream_sink ∷ []) given end 1 stream_sink (actor.Sink []) r refl t) (r.over 1 stream_sink refl)
    (r.fifo 0 1 (λ e. cc (e))) in
    let many : 1 < length actors = (let l = ap length s in omega (arith, l)) in
    ap bytes_of (has.each 1 many ∙ ap (λ (z : DemoTalker). Some z) (sym done))

double_run : (bytes : List ℕ) (actors after : List DemoTalker) (given : ℕ → DemoTalker) (limit : ℕ) (capacity : Option ℕ) (end : Moment DemoTalker)
    → StartsWithActors demo.Double bytes actors → IsGiven given actors → IsPlain (demo_machines demo.Double (length actors)) by_demo given limit capacity (Ended end)
    → HasActors (length actors) end.actor after → Computes demo.Double bytes (output_of demo.Double after)
double_run bytes actors after given limit capacity end s g is has =
    double bytes actors after given end (length actors) s g (ran (demo_machines demo.Double (length actors)) given limit capacity end is) has

stream_run : (bytes : List ℕ) (actors after : List DemoTalker) (given : ℕ → DemoTalker) (limit : ℕ) (capacity : Option ℕ) (end : Moment DemoTalker)
    → StartsWithActors demo.Stream bytes actors → IsGiven given actors → IsPlain (demo_machines demo.Stream (length actors)) by_demo given limit capacity (Ended end)
    → HasActors (length actors) end.actor after → Computes demo.Stream bytes (output_of demo.Stream after)
stream_run bytes actors after given limit capacity end s g is has =
    stream bytes actors after given end (length actors) s g (ran (demo_machines demo.Stream (length actors)) given limit capacity end is) has

pub ended_run : (kind : Demo) (bytes : List ℕ) (actors after : List DemoTalker) (given : ℕ → DemoTalker) (limit : ℕ) (capacity : Option ℕ) (end : Moment DemoTalker)
    → StartsWithActors kind bytes actors → IsGiven given actors → IsPlain (demo_machines kind (length actors)) by_demo given limit capacity (Ended end)
    → HasActors (length actors) end.actor after → Computes kind bytes (output_of kind after)
ended_run demo.Double = double_run
ended_run demo.Stream = stream_run
ended_run demo.Ring = ring_run
ended_run demo.Butterfly = butterfly_run
