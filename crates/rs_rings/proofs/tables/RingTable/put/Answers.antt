use Rattle.std.proofs.Common.{◌≡◌, ℕ, List, length, ap, ◌∙◌, subst, IfSome}
use Rattle.rs_model.specs.Data.{Machine_data}
use Rattle.rs_model.specs.declared.graph.Arm.{Arm}
use Rattle.rs_core.specs.Ways.{arm_with}
use Rattle.rs_rings.specs.Acts.{MayPut}
use Rattle.rs_rings.specs.Rule.{machines_in_key}
use Rattle.rs_rings.specs.Views.{the_part}
use Rattle.rs_rings.specs.declared.views.Part.{Part}
use Rattle.rs_rings.proofs.PassRows.{put_knows, put_arms, some_is_some, some_arm, may_put}
use Rattle.rs_rings.proofs.tables.RingTable.put.Goals as goal

pub next_of-next-requires : goal.next_of-next-requires
next_of-next-requires c =
    let ms : List Machine_data
    = machines_in_key c.args.self.now.board.shared.key in let p : ℕ = c.args.sender.0 in let m = c.args.seat.now.me in let a : Part = the_part p m.0.parts in let x = c.args.parcel in
    let k = put_knows (machines_in_key c.args.self.now.board.shared.key)
    c.args.self.now.layout.roles c.args.sender.0 c.args.receiver c.args.seat.now.me c.args.rows.now.items c.args.parcel c.counts-counts.result.state c.counts-counts.result.sent
    c.counts-counts.result.got
    (ap length c.args.self.now.same
    ∙ c.args.self.now.machine_count) c.args.self.now.layout.bounded c.requires.well_formed c.requires.may.between c.requires.may.speaks_for c.requires.can c.requires.may.acts
    c.counts-counts.ensures in
    let same = put_arms ms p c.args.receiver a.state c.counts-counts.result.state x c.arms_of-arms.result.now c.requires.can k.state_is c.arms_of-arms.ensures in
    let arm = some_arm ms p c.args.receiver a.state x c.requires.can in
    some_is_some (arm_with c.arms_of-arms.result.now x.label) arm.0 (ap (λ (l : List Arm). arm_with l x.label) same ∙ arm.1)

pub put_by-requires-clause-pair : goal.put_by-requires-clause-pair
put_by-requires-clause-pair c =
    let k = put_knows (machines_in_key c.args.self.now.board.shared.key)
    c.args.self.now.layout.roles c.args.sender.0 c.args.receiver c.args.seat.now.me c.args.rows.now.items c.args.parcel c.counts-counts.result.state c.counts-counts.result.sent
    c.counts-counts.result.got
    (ap length c.args.self.now.same
    ∙ c.args.self.now.machine_count) c.args.self.now.layout.bounded c.requires.well_formed c.requires.may.between c.requires.may.speaks_for c.requires.can c.requires.may.acts
    c.counts-counts.ensures in
    k.pair

pub put_by-requires-clause-can : goal.put_by-requires-clause-can
put_by-requires-clause-can c =
    let ms : List Machine_data
    = machines_in_key c.args.self.now.board.shared.key in let p : ℕ = c.args.sender.0 in let m = c.args.seat.now.me in let a : Part = the_part p m.0.parts in let x = c.args.parcel in
    let k = put_knows (machines_in_key c.args.self.now.board.shared.key)
    c.args.self.now.layout.roles c.args.sender.0 c.args.receiver c.args.seat.now.me c.args.rows.now.items c.args.parcel c.counts-counts.result.state c.counts-counts.result.sent
    c.counts-counts.result.got
    (ap length c.args.self.now.same
    ∙ c.args.self.now.machine_count) c.args.self.now.layout.bounded c.requires.well_formed c.requires.may.between c.requires.may.speaks_for c.requires.can c.requires.may.acts
    c.counts-counts.ensures in
    let same = put_arms ms p c.args.receiver a.state c.counts-counts.result.state x c.arms_of-arms.result.now c.requires.can k.state_is c.arms_of-arms.ensures in
    let may : MayPut ms p c.args.receiver.0 a.state x c.next_of-next.result
    = may_put ms p c.args.receiver a.state x c.next_of-next.result c.requires.well_formed c.requires.can
    (subst (λ (l : List Arm). IfSome (arm_with l x.label) (λ z. c.next_of-next.result ≡ z.next)) same c.next_of-next.ensures) in
    may

pub put_by-requires-clause-sent : goal.put_by-requires-clause-sent
put_by-requires-clause-sent c =
    let k = put_knows (machines_in_key c.args.self.now.board.shared.key)
    c.args.self.now.layout.roles c.args.sender.0 c.args.receiver c.args.seat.now.me c.args.rows.now.items c.args.parcel c.counts-counts.result.state c.counts-counts.result.sent
    c.counts-counts.result.got
    (ap length c.args.self.now.same
    ∙ c.args.self.now.machine_count) c.args.self.now.layout.bounded c.requires.well_formed c.requires.may.between c.requires.may.speaks_for c.requires.can c.requires.may.acts
    c.counts-counts.ensures in
    record { count = k.sent_is; fits = k.acts }
