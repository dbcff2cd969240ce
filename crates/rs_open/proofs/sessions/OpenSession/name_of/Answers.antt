use Rattle.std.proofs.Common.{IsUtf8, subst, sym}
use Rattle.rs_text.specs.Sound.{IsSound}
use Rattle.rs_open.proofs.Words.{role_is_text}
use Rattle.rs_open.proofs.sessions.OpenSession.name_of.Goals as goal

pub text_of-requires : goal.text_of-requires
text_of-requires c =
    subst IsUtf8 (sym c.role_name.ensures) (role_is_text c.names.result.now c.args.role (subst IsSound (sym c.names.ensures.names) c.names.ensures.has.sound))
