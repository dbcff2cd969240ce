use Rattle.std.proofs.Common.{◌≡◌, Bool, List, ℕ, Some, subst, sym}
use Rattle.std.proofs.lemmas.Result.{IfOk-weaker}
use Rattle.rs_partings.specs.Meeting.{AreMeeting}
use Rattle.rs_reasons.proofs.Telling.{where_is}
use Rattle.rs_reasons.specs.Before.{Clash_data}
use Rattle.rs_reasons.specs.Unprojectable.{TellsClash, clash_text}
use Rattle.rs_reasons.proofs.unprojectable.clash_text.Goals as goal

pub returns : goal.returns
returns c =
    let pr = c.args.protocol.now in
    let role = c.args.role in
    let clash : Clash_data = record { names = c.args.names.now; protocol = pr; talks = c.args.talks.now; role = role; a = c.args.a; b = c.args.b; ones = c.as_slice.result.now; others = c.as_slice-2.result.now } in
    IfOk-weaker c.text_of_clash.result (λ (t : List ℕ). t ≡ clash_text clash c.in_ok-parting.parting) (TellsClash c.args.names.now pr c.args.talks.now role c.args.a c.args.b)
    (λ t e. record {
      parting = c.in_ok-parting.parting;
      is_where = where_is pr role c.args.a c.args.b c.in_ok-parting.parting c.in_ok-parting.ensures;
      ones = c.as_slice.result.now;
      to_one = subst (λ (z : List Bool). AreMeeting pr role (Some c.args.a) z) (sym c.as_slice.ensures.value) c.in_ok-ones.ensures;
      others = c.as_slice-2.result.now;
      to_other = subst (λ (z : List Bool). AreMeeting pr role c.args.b z) (sym c.as_slice-2.ensures.value) c.in_ok-others.ensures;
      text = e;
    }) c.text_of_clash.ensures
