use Rattle.std.proofs.Common.{List, Bool, length}
use Rattle.std.proofs.lemmas.Result.{IfOk-weaker}
use Rattle.rs_partings.specs.Flags.{AreFlags}
use Rattle.rs_partings.specs.Meeting.{AreMeeting}
use Rattle.rs_partings.specs.Partings.{MeetsMember}
use Rattle.rs_partings.proofs.partings.meets_member.Goals as goal

pub returns : goal.returns
returns c =
    let pr = c.args.protocol.now in
    IfOk-weaker c.meeting.result (λ v. AreFlags (length pr.nodes) (λ n. MeetsMember pr c.args.role n c.args.member) v.items) (λ v. AreMeeting pr c.args.role c.args.member v.items)
    (λ v h. record { size = h.size; each = h.each }) c.meeting.ensures
