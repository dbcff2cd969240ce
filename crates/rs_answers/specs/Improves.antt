-- Public: what `improve` answers to a document.
use Rattle.std.specs.Prelude.{◌≡◌, ◌==◌, ℕ, List, [], ◌∷◌, ◌++◌, codes, if◌then◌else◌, Option, Some, None, slice_get, slice_set}
use Rattle.std.specs.Fmt.{decimal}
use Rattle.rs_derive.specs.Data.{Derivation_data}
use Rattle.rs_documents.specs.Canonical.{IsCanonicalDocument}
use Rattle.rs_documents.specs.Data.{Document_data}
use Rattle.rs_documents.specs.Documents.{SpellsDocument}
use Rattle.rs_improve.specs.Data.{Improved_data}
use Rattle.rs_improve.specs.Improved.{IsImproved}
use Rattle.rs_improve.specs.declared.improving.Ceased.{Ceased}
use Rattle.rs_improve.specs.declared.improving.Ceased.TheVariants as ceased
use Rattle.rs_model.specs.Data.{Machine_data}
use Rattle.rs_project.specs.Data.{Projection_data}
use Rattle.rs_text.specs.Names.{place_of}
use Rattle.rs_answers.specs.Checks.{with_derivations}
use Rattle.rs_answers.specs.Data.{Answer_data}
use Rattle.rs_answers.specs.Derivations.{AreCanonical}
use Rattle.rs_answers.specs.RefusalTexts.{cut_text, line_of_answer}
use Rattle.rs_answers.specs.Refusals.{HasNoDerivations, refusal_answer}
use Rattle.rs_answers.specs.Sessions.{HasMachines}
use Rattle.rs_answers.specs.Texts.{joined_texts}
use Rattle.rs_answers.specs.Verifying.{IsVerified}
use Rattle.rs_answers.specs.declared.refusals.Refusal.{Refusal}
use Rattle.rs_answers.specs.declared.verdicts.Verdict.TheVariants as verdict
use Rattle.rs_answers.specs.declared.verdicts.Verdict.TheVariants.{Fine}

-- the roles line has no such role: the line `unknown role`
abbrev pub unknown_role : Answer_data
unknown_role = line_of_answer (codes "unknown role") [] verdict.Malformed

-- why no more swaps were made
abbrev pub ceased_text : Ceased → List ℕ
ceased_text ceased.Asked = codes "asked"
ceased_text ceased.NoSwap = codes "no swap"
ceased_text ceased.TooManyStates = codes "too many states"
ceased_text ceased.TooLarge = codes "too large"
ceased_text (ceased.NotFound cut) = cut_text cut
ceased_text (ceased.Forgets node) = joined_texts (codes "forgets at node " ∷ decimal node ∷ [])

-- `# P: swaps M, T`: a comment of the role, how many swaps were made, and why no more
abbrev pub comment_on_swaps : List ℕ → ℕ → List ℕ → List ℕ
comment_on_swaps role swaps reason = joined_texts (codes "# " ∷ role ∷ codes ": swaps " ∷ decimal swaps ∷ codes ", " ∷ reason ∷ codes "\n" ∷ [])

-- the comment on an improvement
abbrev pub swaps_line : List ℕ → Improved_data → List ℕ
swaps_line role improved = comment_on_swaps role improved.swaps (ceased_text improved.ceased)

-- the document where the role with the place has this machine or none, whatever it had
abbrev pub with_own : Document_data → ℕ → Option Machine_data → Document_data
with_own d place own = record d { machines = slice_set d.machines place own }

-- the improved machine, where a swap was made
abbrev pub machine_if_swapped : Improved_data → Option Machine_data
machine_if_swapped improved = if improved.swaps == 0 then None else Some improved.machine

-- the document with the improved machine and its derivation, and with the derivations of the other roles' machines
abbrev pub improved_document : Document_data → ℕ → List Derivation_data → Improved_data → Document_data
improved_document d place derivations improved = with_derivations (with_own d place (machine_if_swapped improved)) (slice_set derivations place improved.derivation)

-- the line on the swaps, and after it the canonical text of the document
pub record ShowsBehind (line : List ℕ) (d : Document_data) (answer : Answer_data) : Type 0 where
  pub shown : List ℕ
  pub canonical : IsCanonicalDocument d shown
  pub text : answer.text ≡ line ++ shown
  pub fine : answer.verdict ≡ Fine

-- the projection of the role is improved: what `check` finds for the document without the role's own machine, and as many swaps as were asked or as can be made
pub record IsImprovedSession (bound asked : ℕ) (d : Document_data) (place : ℕ) (derivations : List Derivation_data) (improved : Improved_data) : Type 0 where
  pub projections : List Projection_data
  pub machines : List Machine_data
  pub has : HasMachines (with_own d place None) projections machines
  pub canonical : AreCanonical bound machines projections derivations
  pub projection : Projection_data
  pub projects : slice_get projections place ≡ Some projection
  pub is_improved : IsImproved projection.machine bound asked improved

-- if n swaps of the role's machine are asked for, and derivations are searched within the bound: one of these applies
pub data Improves (role : List ℕ) (bound asked : ℕ) (d : Document_data) (answer : Answer_data) : Type 0 where
  -- the document has no such role
  HasNoRole : place_of role d.names.roles ≡ None → answer ≡ unknown_role → Improves role bound asked d answer
  -- without the role's own machine the document is refused, as `check` refuses it
  IsRefused : (place : ℕ) → place_of role d.names.roles ≡ Some place → (refusal : Refusal) → HasNoDerivations bound (with_own d place None) refusal
      → answer ≡ refusal_answer d.names refusal → Improves role bound asked d answer
  -- the document is shown with the improved machine
  IsShown : (place : ℕ) → place_of role d.names.roles ≡ Some place → (derivations : List Derivation_data) (improved : Improved_data)
      → IsImprovedSession bound asked d place derivations improved → ShowsBehind (swaps_line role improved) (improved_document d place derivations improved) answer
      → Improves role bound asked d answer

-- the text spells a document that is verified: its own derivations show that these machines may stand for these projections
pub record SpellsVerified (text : List ℕ) : Type 0 where
  pub document : Document_data
  pub spells : SpellsDocument text document
  pub projections : List Projection_data
  pub machines : List Machine_data
  pub verified : IsVerified document projections machines
