-- A role that has a name has a machine.
use Rattle.std.proofs.Common.{◌≡◌, ℕ, ◌<◌, List, Some, length, subst}
use Rattle.rs_answers.specs.declared.accepting.AcceptedDocument.{AcceptedDocument}
use Rattle.rs_open.specs.Opening.{HasNames}
use Rattle.rs_text.specs.Names.{place_of}
use Rattle.rs_text.proofs.Numbers.{place_below}

pub has_machine : (opened : AcceptedDocument) (name : List ℕ) (role : ℕ) → HasNames opened → place_of name opened.names.roles ≡ Some role → role < length opened.session.machines
has_machine opened name role has is = subst (λ (n : ℕ). role < n) has.one_each (place_below opened.names.roles name role is)
