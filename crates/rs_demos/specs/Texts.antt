-- Public: the document of each demo, and its text: the canonical one, with a line for each machine that is written.
use Rattle.std.specs.Prelude.{ℕ, List}
use Rattle.rs_documents.specs.Canonical.{IsCanonicalDocument}
use Rattle.rs_documents.specs.Data.{Document_data}
use Rattle.rs_documents.specs.Parts.{no_parts}
use Rattle.rs_demos.specs.Sessions.{demo_names, demo_protocol, written_machines}
use Rattle.rs_model.specs.declared.demos.Demo.{Demo}

-- the document of a demo for n roles
abbrev pub document_of : Demo → ℕ → Document_data
document_of kind count = record { names = demo_names kind count; protocol = demo_protocol kind count; machines = written_machines kind count; derivations = no_parts (demo_names kind count).roles }

-- the text is the canonical one of this document
abbrev pub IsDemoText : Demo → ℕ → List ℕ → Type 0
IsDemoText kind count text = IsCanonicalDocument (document_of kind count) text
