-- Public: what is printed of the actors of an ended run.
use Rattle.std.specs.Prelude.{ℕ, ℤ, pos, List, [], map, Option, Some, slice_get}
use Rattle.rs_demos.specs.Results.{results_text}
use Rattle.rs_demos.specs.declared.actors.DemoTalker.{DemoTalker}
use Rattle.rs_demos.specs.declared.actors.DemoTalker.TheVariants as actor
use Rattle.rs_model.specs.declared.demos.Demo.{Demo}
use Rattle.rs_model.specs.declared.demos.Demo.TheVariants as demo

-- the bytes that a sink has joined
abbrev pub bytes_of : Option DemoTalker → List ℕ
bytes_of (Some (actor.Sink bytes)) = bytes
bytes_of _ = []

-- the sum of a member of a ring, and the number that a member of a butterfly holds
abbrev pub result_of : DemoTalker → ℤ
result_of (actor.RingMember m) = m.sum
result_of (actor.ButterflyMember m) = m.held
result_of _ = pos 0

-- what the sink has, which is the last role, or the results in role order
abbrev pub output_of : Demo → List DemoTalker → List ℕ
output_of demo.Double actors = bytes_of (slice_get actors 2)
output_of demo.Stream actors = bytes_of (slice_get actors 1)
output_of demo.Ring actors = results_text (map result_of actors)
output_of demo.Butterfly actors = results_text (map result_of actors)
