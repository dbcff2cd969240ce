use Rattle.std.proofs.Common.{◌≡◌, inl, inr, subst}
use Rattle.rs_search.specs.Canonical.{SearchRefuses}
use Rattle.rs_search.specs.declared.faults.SearchFault.{SearchFault}
use Rattle.rs_search.specs.declared.faults.SearchFault.TheVariants.{NotFound, Forgets, TooLarge, NoMemory}
use Rattle.rs_improve.proofs.Itself.{itself_is_derived}
use Rattle.rs_improve.proofs.improving.derive_itself.Goals as goal

pub unreachable-requires : goal.unreachable-requires
unreachable-requires c =
    let m = c.args.machine.now in
    let f : SearchFault = NotFound c.in-Err-NotFound.field-0-0 in
    let r : SearchRefuses m m c.args.bound f = subst (λ (z : SearchFault). SearchRefuses m m c.args.bound z) c.in-Err-NotFound.field-0-is c.in-Err-NotFound.ensures.err in
    elim (itself_is_derived m c.args.bound c.requires.proper c.requires.some f r) [ inl e ↦ (let k : f ≡ TooLarge = e in cc) | inr e ↦ (let k : f ≡ NoMemory = e in cc) ]

pub unreachable-requires-in-Err-Forgets : goal.unreachable-requires-in-Err-Forgets
unreachable-requires-in-Err-Forgets c =
    let m = c.args.machine.now in
    let f : SearchFault = Forgets c.in-Err-Forgets.field-0-0 in
    let r : SearchRefuses m m c.args.bound f = subst (λ (z : SearchFault). SearchRefuses m m c.args.bound z) c.in-Err-Forgets.field-0-is c.in-Err-Forgets.ensures.err in
    elim (itself_is_derived m c.args.bound c.requires.proper c.requires.some f r) [ inl e ↦ (let k : f ≡ TooLarge = e in cc) | inr e ↦ (let k : f ≡ NoMemory = e in cc) ]
