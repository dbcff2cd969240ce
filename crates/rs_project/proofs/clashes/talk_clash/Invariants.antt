use Rattle.std.proofs.Common.{◌≡◌, true}
use Rattle.rs_project.specs.Clashes.{AllAgree}
use Rattle.rs_project.specs.Noted.{AreNotedTalks}
use Rattle.rs_project.proofs.clashes.talk_clash.Given as goal

abbrev pub invariant-loop-later : goal.invariant-loop-later
invariant-loop-later l = record {
  agree : AllAgree l.protocol l.role l.talks l.later;
  noted : l.notes.tell ≡ true → AreNotedTalks l.protocol l.role l.sender l.notes.sorts.items l.talks l.later;
}
