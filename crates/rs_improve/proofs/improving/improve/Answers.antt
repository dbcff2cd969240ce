use Rattle.std.proofs.Common.{◌≡◌, arith, subst, sym}
use Rattle.rs_model.specs.Data.{Machine_data}
use Rattle.rs_derive.specs.Derivations.{IsDerivation, Remembers}
use Rattle.rs_search.proofs.Accepted.{derives, remembers}
use Rattle.rs_improve.proofs.Once.{so_far_ceased, so_far_first, so_far_on}
use Rattle.rs_improve.specs.Attempts.{IsAttempt, IsSwappedSoFar}
use Rattle.rs_improve.specs.Improved.{CeasesAt}
use Rattle.rs_improve.specs.declared.improving.Attempt.{Attempt}
use Rattle.rs_improve.proofs.improving.improve.Goals as goal

pub improve_on-requires-clause-once : goal.improve_on-requires-clause-once
improve_on-requires-clause-once c =
    let above = c.args.above.now in
    let s = so_far_first above c.args.bound c.args.asked c.in_ok-derivation.derivation c.requires.proper c.in_ok-derivation.ensures.ok in
    let h = subst (λ (z : Attempt). IsAttempt above c.args.bound c.args.asked 0 above z) c.in-Succeeds.is c.in_ok-reason.ensures in
    so_far_on above c.args.bound c.args.asked 0 1 above c.in-Succeeds.machine c.in_ok-derivation.derivation c.in-Succeeds.derivation (omega arith) s h

pub returns-in_ok-copy-in-Ceases-clause-improved : goal.returns-in_ok-copy-in-Ceases-clause-improved
returns-in_ok-copy-in-Ceases-clause-improved c =
    let above = c.args.above.now in
    let s = so_far_first above c.args.bound c.args.asked c.in_ok-derivation.derivation c.requires.proper c.in_ok-derivation.ensures.ok in
    let h = subst (λ (z : Attempt). IsAttempt above c.args.bound c.args.asked 0 above z) c.in-Ceases.is c.in_ok-reason.ensures in
    let m = c.in_ok-copy-in-Ceases.field-0 in
    let e : m ≡ above = c.in_ok-copy-in-Ceases.ensures in
    so_far_ceased above c.args.bound c.args.asked (record { machine = m; swaps = 0; ceased = c.in-Ceases.reason; derivation = c.in_ok-derivation.derivation })
    (subst (λ (z : Machine_data). IsSwappedSoFar above c.args.bound c.args.asked 0 z c.in_ok-derivation.derivation) (sym e) s)
    (subst (λ (z : Machine_data). CeasesAt above c.args.bound c.args.asked 0 z c.in-Ceases.reason) (sym e) h)

pub returns-in_ok-copy-in-Ceases-clause-follows : goal.returns-in_ok-copy-in-Ceases-clause-follows
returns-in_ok-copy-in-Ceases-clause-follows c =
    let above = c.args.above.now in
    let e : c.in_ok-copy-in-Ceases.field-0 ≡ above = c.in_ok-copy-in-Ceases.ensures in
    subst (λ (z : Machine_data). IsDerivation c.in_ok-derivation.derivation z above) (sym e)
    (derives above above c.args.bound c.in_ok-derivation.derivation c.requires.proper c.requires.proper c.in_ok-derivation.ensures.ok.canonical)

pub returns-in_ok-copy-in-Ceases-clause-remembers : goal.returns-in_ok-copy-in-Ceases-clause-remembers
returns-in_ok-copy-in-Ceases-clause-remembers c =
    let above = c.args.above.now in
    let e : c.in_ok-copy-in-Ceases.field-0 ≡ above = c.in_ok-copy-in-Ceases.ensures in
    subst (λ (z : Machine_data). Remembers c.in_ok-derivation.derivation z above) (sym e)
    (remembers above above c.args.bound c.in_ok-derivation.derivation c.in_ok-derivation.ensures.ok)

pub returns-in_ok-improve_on-in-Succeeds-clause-follows : goal.returns-in_ok-improve_on-in-Succeeds-clause-follows
returns-in_ok-improve_on-in-Succeeds-clause-follows c =
    let i = c.in_ok-improve_on-in-Succeeds.field-0 in
    let h = c.in_ok-improve_on-in-Succeeds.ensures in
    derives i.machine c.args.above.now c.args.bound i.derivation h.proper c.requires.proper h.improved.derivation.canonical

pub returns-in_ok-improve_on-in-Succeeds-clause-remembers : goal.returns-in_ok-improve_on-in-Succeeds-clause-remembers
returns-in_ok-improve_on-in-Succeeds-clause-remembers c =
    let i = c.in_ok-improve_on-in-Succeeds.field-0 in
    remembers i.machine c.args.above.now c.args.bound i.derivation c.in_ok-improve_on-in-Succeeds.ensures.improved.derivation
