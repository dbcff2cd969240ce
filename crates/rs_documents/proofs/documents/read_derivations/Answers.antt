use Rattle.std.proofs.Common.{sym, ap, ◌∙◌}
use Rattle.std.specs.Prelude.{codes}
use Rattle.rs_derive.specs.Data.{Derivation_data}
use Rattle.rs_model.specs.Data.{Names_data}
use Rattle.rs_documents.specs.Parts.{derivation_parts, no_parts}
use Rattle.rs_documents.specs.Ready.{IsBounded}
use Rattle.rs_documents.proofs.Parts.{done, held_by, word_is, word_isnt}
use Rattle.rs_documents.proofs.documents.read_derivations.Goals as goal

pub loop-alloc-init : goal.loop-alloc-init
loop-alloc-init c = (
  c.requires.within,
  c.requires.names,
  held_by (λ (x : Derivation_data). x.role) IsBounded c.args.names.now.roles c.in-Ok.derivations.items
      (c.in-Ok.ensures ∙ ap no_parts (c.as_slice.ensures.value ∙ ap (λ (n : Names_data). n.roles) c.names.view_is)),
  λ row h. h,
)

pub add_derivation-requires-clause-derivation : goal.add_derivation-requires-clause-derivation
add_derivation-requires-clause-derivation c = word_is (codes "derivation") _ (sym c.loop-alloc-test.ensures)

pub returns-clause-ok : goal.returns-clause-ok
returns-clause-ok c =
    done derivation_parts c.args.bytes.now c.args.at c.args.names.now c.loop-alloc.names c.in-Ok.derivations.items c.loop-alloc.derivations.items c.loop-alloc.until
    (c.in-Ok.ensures ∙ ap no_parts (c.as_slice.ensures.value ∙ ap (λ (n : Names_data). n.roles) c.names.view_is))
    c.loop-alloc.invariant.3 (word_isnt (codes "derivation") _ (sym c.loop-alloc-test.ensures))
