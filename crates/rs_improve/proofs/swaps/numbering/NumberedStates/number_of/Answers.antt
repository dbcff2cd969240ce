use Rattle.std.proofs.Common.{arith, ◌≡◌, ◌++◌, ◌∷◌, [], ◌∙◌, ap, length, Some, None, Vec, Global}
use Rattle.rs_graph.proofs.Growth.{named_known, named_new}
use Rattle.rs_improve.specs.Swapping.{number_slot}
use Rattle.rs_improve.specs.declared.swaps.SwappedState.{SwappedState}
use Rattle.rs_improve.proofs.Finding.{filed_on, not_filed}
use Rattle.rs_improve.proofs.swaps.numbering.NumberedStates.number_of.Goals as goal

pub returns-in-Some-clause-named : goal.returns-in-Some-clause-named
returns-in-Some-clause-named c =
    named_known c.args.self.now.items.items c.args.state c.in-Some.n (c.requires.filed.from c.in-Some.n c.args.state (c.slot.ensures ∙ ap Some c.in-Some.is))

pub returns-in_ok-push-in-None-clause-named : goal.returns-in_ok-push-in-None-clause-named
returns-in_ok-push-in-None-clause-named c =
    let e : number_slot c.args.self.now.olds.items c.args.self.now.news.items c.args.state ≡ Some None = c.slot.ensures ∙ ap Some c.in-None.is in
    let p : c.set_slot.new.self.items.items ≡ c.args.self.now.items.items ++ c.args.state ∷ []
    = ap (λ (z : Vec SwappedState Global). z.items) c.set_slot.ensures.items ∙ c.in_ok-push-in-None.ensures.items in
    let l : c.len-n.result ≡ length c.args.self.now.items.items = grind (arith, c.len-n.ensures) in
    named_new c.args.self.now.items.items c.set_slot.new.self.items.items c.args.state c.len-n.result
    (not_filed c.args.self.now.items.items c.args.self.now.olds.items c.args.self.now.news.items c.args.state c.requires.filed e) p l

pub returns-in_ok-push-in-None-clause-filed : goal.returns-in_ok-push-in-None-clause-filed
returns-in_ok-push-in-None-clause-filed c =
    let e : number_slot c.args.self.now.olds.items c.args.self.now.news.items c.args.state ≡ Some None = c.slot.ensures ∙ ap Some c.in-None.is in
    let p : c.set_slot.new.self.items.items ≡ c.args.self.now.items.items ++ c.args.state ∷ []
    = ap (λ (z : Vec SwappedState Global). z.items) c.set_slot.ensures.items ∙ c.in_ok-push-in-None.ensures.items in
    let l : c.len-n.result ≡ length c.args.self.now.items.items = grind (arith, c.len-n.ensures) in
    filed_on c.args.self.now.items.items c.set_slot.new.self.items.items c.args.self.now.olds.items c.args.self.now.news.items c.set_slot.new.self.olds.items c.set_slot.new.self.news.items c.args.state
    c.len-n.result c.requires.filed e p l c.set_slot.ensures.here c.set_slot.ensures.others
