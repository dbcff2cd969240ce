-- Public: the first fault of a text.
use Rattle.std.specs.Prelude.{◌≡◌, ℕ, ◌⊎◌, List, [], ◌∷◌, ◌++◌, length, Option, Some, None, nat_le, ◌==◌, if◌then◌else◌}
use Rattle.std.specs.List.{flat_map}
use Rattle.rs_model.specs.Data.{Names_data}
use Rattle.rs_model.specs.declared.limits.TheConstants.{MOST_BOUND, MOST_CANDIDATES}
use Rattle.rs_text.specs.declared.tokens.FaultKind.{FaultKind}
use Rattle.rs_text.specs.declared.faults.Wanted.{Wanted}
use Rattle.rs_text.specs.declared.faults.TextKind.{TextKind}
use Rattle.rs_text.specs.declared.faults.TextKind.TheVariants as kind
use Rattle.rs_text.specs.Faults.{kind_of}
use Rattle.rs_text.specs.FirstFaults.{IsWhole, FirstFaultBy}
use Rattle.rs_text.specs.NameFaults.{fault_of_label, fault_of_role}
use Rattle.rs_text.specs.Names.{names_with, is_among}
use Rattle.rs_text.specs.Seen.{plain_text, word_text}
use Rattle.rs_text.specs.Signs.{Sign, broken}
use Rattle.rs_text.specs.TokenTests.{number_value}
use Rattle.rs_derivations.specs.declared.formats.Format.{Format}
use Rattle.rs_derivations.specs.declared.formats.Format.TheVariants.{One, Two}
use Rattle.rs_derivations.specs.Cuts.{behind_mark, ActsCut, at_act, in_act, NodeCut, at_number, ActsHome, of_node, of_list, Cut, at_role, in_acts, in_node, at_end, cut_signs, wanted_of, IsPlace}
use Rattle.rs_derivations.specs.Derivations.{written_lists, labels_of_acts}
use Rattle.rs_derivations.specs.Spells.{IsFormed}
use Rattle.rs_derivations.specs.Trees.{ActTree, NodeTree, DerivationTree, derivation_signs}

-- there is room for the node with the right number
abbrev pub fault_of_node : ℕ → Option ℕ → Option TextKind
fault_of_node count None = None
fault_of_node count (Some n) = if n == count then (if nat_le MOST_CANDIDATES count then Some kind.TooManyNodes else None) else None

-- the peer of an act is known, and there is room for the act after so many of its list
abbrev pub fault_of_peer : Names_data → ℕ → Option (List ℕ) → Option TextKind
fault_of_peer old count None = None
fault_of_peer old count (Some name) = if is_among name old.roles then (if nat_le MOST_BOUND count then Some kind.TooManyActs else None) else Some kind.UnknownRole

-- all acts that are written out before these
abbrev pub acts_before : ActsHome → List ActTree
acts_before (of_node h nodes s) = flat_map (λ acts. acts) (written_lists One h.lists nodes)
acts_before (of_list h) = flat_map (λ acts. acts) (written_lists Two h.lists [])

-- the rule of names or limits that a token breaks at its place in acts
abbrev pub fault_in_acts : Names_data → ActsHome → ActsCut → Sign → Option TextKind
fault_in_acts old home (at_act acts) t = fault_of_peer old (length acts) (plain_text t)
fault_in_acts old home (in_act acts (behind_mark p k)) t = fault_of_label (names_with old.labels (labels_of_acts (acts_before home) ++ labels_of_acts acts)) (word_text t)
fault_in_acts old home _ t = None

-- the same in a node
abbrev pub fault_in_node : {f : Format} → List (NodeTree f) → NodeCut f → Sign → Option TextKind
fault_in_node nodes at_number t = fault_of_node (length nodes) (number_value t)
fault_in_node nodes _ t = None

-- the same at any place
abbrev pub fault_of : Names_data → Cut → Sign → Option TextKind
fault_of old at_role t = fault_of_role old (plain_text t)
fault_of old (in_acts home c) t = fault_in_acts old home c t
fault_of old (in_node f h nodes c) t = fault_in_node nodes c t
fault_of old _ t = None

-- the tokens begin a derivation
abbrev pub Begins : List Sign → Type 0
Begins signs = (tree : DerivationTree) × (rest : List Sign) × IsFormed tree × (derivation_signs tree ≡ signs ++ rest)

-- the place is within the derivation, not after it
abbrev pub IsInDerivation : Cut → Type 0
IsInDerivation (at_end t) = ⊥
IsInDerivation _ = Unit {0}

-- the tokens before it stand before a place of the grammar
pub record StandsAt (before : List Sign) (place : Cut) : Type 0 where
  pub right : IsPlace place
  pub within : IsInDerivation place
  pub signs : cut_signs place ≡ before

-- the tokens before it begin a derivation that goes on, and with it they begin none
pub record IsUnexpected (before : List Sign) (t : Sign) (wanted : Wanted) : Type 0 where
  pub whole : IsWhole t
  pub place : Cut
  pub stands : StandsAt before place
  pub wants : wanted_of place ≡ wanted
  pub stops : Begins (before ++ t ∷ []) → ⊥

-- it breaks a rule of names or limits at its place
pub record IsMisplaced (old : Names_data) (before : List Sign) (t : Sign) (kind : TextKind) : Type 0 where
  pub place : Cut
  pub stands : StandsAt before place
  pub fault : fault_of old place t ≡ Some kind

-- it is a faulty token where the derivation is still read
pub record IsBroken (before : List Sign) (t : Sign) (kind : FaultKind) : Type 0 where
  pub broken_is : t ≡ broken kind
  pub place : Cut
  pub stands : StandsAt before place

-- the faults of a token, with the names that were there and the tokens before it. The one after it doesn't matter
abbrev pub FaultAt : (old : Names_data) → (before : List Sign) → (t next : Sign) → TextKind → Type 0
FaultAt old before t next k = ((w : Wanted) × (k ≡ kind.Expected w) × IsUnexpected before t w) ⊎ (IsMisplaced old before t k ⊎ ((j : FaultKind) × (k ≡ kind_of j) × IsBroken before t j))

-- the fault at the least offset, and at one token the one with the least number
abbrev pub FirstFault : (old : Names_data) → (bytes : List ℕ) → (at : ℕ) → TextKind → (offset : ℕ) → Type 0
FirstFault old bytes at kind offset = FirstFaultBy (FaultAt old) bytes at kind offset
