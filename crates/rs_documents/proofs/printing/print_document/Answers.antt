use Rattle.std.proofs.Common.{◌≤◌, List, Option, length, subst, sym}
use Rattle.rs_derive.specs.Data.{Derivation_data}
use Rattle.rs_documents.specs.Canonical.{ArePrintable, IsCanonicalDocument}
use Rattle.rs_documents.specs.Data.{Document_data}
use Rattle.rs_documents.proofs.CanShow.{few_names}
use Rattle.rs_documents.proofs.Lines.{printed}
use Rattle.rs_model.specs.declared.limits.TheConstants.{MOST_ROLES}
use Rattle.rs_documents.proofs.printing.print_document.Goals as goal

pub push_derivations-requires-clause-printable : goal.push_derivations-requires-clause-printable
push_derivations-requires-clause-printable c =
    subst (λ (z : List (Option Derivation_data)). ArePrintable c.document.inside.names z) (sym c.as_slice-2.ensures.value)
    (subst (λ (d : Document_data). ArePrintable d.names d.derivations) (sym c.document.view_is) c.requires.shown.derivations)

pub push_derivations-requires-clause-bounded : goal.push_derivations-requires-clause-bounded
push_derivations-requires-clause-bounded c =
    subst (λ (d : Document_data). length d.names.roles ≤ MOST_ROLES) (sym c.document.view_is)
    (few_names c.args.document.now.names c.args.document.now.protocol c.requires.shown.shaped c.requires.shown.enough)

pub returns : goal.returns
returns c =
    subst (λ (d : Document_data). IsCanonicalDocument d c.push_derivations.new.text) c.document.view_is
    (printed c.document.inside.names c.document.inside.protocol _ _ _ _ _ c.in_ok-text.ensures.canonical (rw c.as_slice.ensures.value at c.in_ok-push_machines.ensures)
    (rw c.as_slice-2.ensures.value at c.in_ok-push_derivations.ensures))
