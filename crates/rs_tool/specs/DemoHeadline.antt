-- Public: what the statuses of a `demo` tell that was carried out.
use Rattle.std.specs.Prelude.{ℕ, List}
use Rattle.rs_runs.specs.Demos.{Opens}
use Rattle.rs_demos.specs.declared.actors.DemoTalker.{DemoTalker}
use Rattle.rs_model.specs.declared.demos.Demo.{Demo}
use Rattle.rs_tool.specs.Headline.{SpellsSafeMachines}

-- the demo has actors for the bytes, and the text of its document for as many roles spells safe machines
pub record HasSafeDemo (kind : Demo) (bytes : List ℕ) : Type 0 where
  pub actors : List DemoTalker
  pub text : List ℕ
  pub opens : Opens kind bytes actors text
  pub safe : SpellsSafeMachines text
