-- Public: with which actors a demo starts: each has the input's part of its role, and nothing else.
use Rattle.std.specs.Prelude.{◌≡◌, ℕ, ℤ, List, [], ◌∷◌, map, None}
use Rattle.std.specs.List.{enumerate_from}
use Rattle.rs_demos.specs.Numbers.{AreAsked}
use Rattle.rs_demos.specs.declared.actors.DemoTalker.{DemoTalker}
use Rattle.rs_demos.specs.declared.actors.DemoTalker.TheVariants as actor
use Rattle.rs_model.specs.declared.demos.Demo.{Demo}
use Rattle.rs_model.specs.declared.demos.Demo.TheVariants as demo
use Rattle.rs_demos.specs.declared.faults.DemoFault.{DemoFault}
use Rattle.rs_demos.specs.declared.faults.DemoFault.TheVariants as fault

-- a member of a ring holds its own number, which is also its sum so far
abbrev pub ring_member : ℤ → DemoTalker
ring_member z = actor.RingMember (record { last = z; sum = z })

-- a member of a butterfly holds its own number, and all bits of its role are before it
abbrev pub butterfly_member : ℕ × ℤ → DemoTalker
butterfly_member x = actor.ButterflyMember (record { bits = x.0; held = x.1 })

-- the actors, in role order
abbrev pub StartsWithActors : Demo → List ℕ → List DemoTalker → Type 0
StartsWithActors demo.Double bytes actors =
    actors ≡ actor.Kernel (record { piece = None }) ∷ actor.Source bytes ∷ actor.Sink [] ∷ []
StartsWithActors demo.Stream bytes actors = actors ≡ actor.Source bytes ∷ actor.Sink [] ∷ []
StartsWithActors demo.Ring bytes actors = (zs : List ℤ) × AreAsked demo.Ring bytes zs × (actors ≡ map ring_member zs)
StartsWithActors demo.Butterfly bytes actors =
    (zs : List ℤ) × AreAsked demo.Butterfly bytes zs × (actors ≡ map butterfly_member (enumerate_from 0 zs))

-- whether the demo asks for numbers, and the bytes are none of those that it asks for
abbrev pub HasNoNumbers : Demo → List ℕ → Type 0
HasNoNumbers demo.Double bytes = ⊥
HasNoNumbers demo.Stream bytes = ⊥
HasNoNumbers kind bytes = (zs : List ℤ) → AreAsked kind bytes zs → ⊥

-- what each fault says; of refused memory nothing is said
abbrev pub StartRefuses : Demo → List ℕ → DemoFault → Type 0
StartRefuses kind bytes fault.BadNumbers = HasNoNumbers kind bytes
StartRefuses kind bytes fault.NoMemory = Unit {0}
