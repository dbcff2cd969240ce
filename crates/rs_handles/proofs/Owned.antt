-- What an `OwnedPointer` owns: its fields, and the value where its pointer points. Assumes `Logic`.
--     pointer_good                  its machine value has its type
--     pointer_out, pointer_in       it is [the value and the right to free it; what the allocator owns], at a pointer that isn't null
use Rattle.std.proofs.Common.{◌≡◌, ℕ, List, [], ◌∷◌, subst}
use mathlib.Core.Bool.{true, ◌&&◌}
use lib.Dec.{T}
use seplogic.Ra.Ura.{Ura}
use mir.Raw.{raw as bare}
use mir.Val.{Val, vptr, has_ty, WT}
use base.Logic.{never, fst∗}
use types.Logic.{Logic, sem}
use types.Kit.{Item, Goal, Seq, Step, step, ‵, ◌$◌, move, fsplit, fjoin}
use denote.RattleType.{RattleType}
use denote.Memory.{lone}
use denote.RawPtr.{Ptr, block_ptr, null_ptr, ptr_val, in_a_block}
use denote.Param.{layout}
use denote.Param.Laws.{Laws}
use Rattle.core.specs.declared.alloc.Allocator.{Ghosts}
use Rattle.core.proofs.cell.Inside.{Good}
use Rattle.std_alloc.specs.Box.Ownership.{box_owns}
use Rattle.std_alloc.proofs.ResultValues.{and_tt}
use Rattle.rs_handles.proofs.Fields.{both, apart, together}
use Rattle.rs_handles.specs.contracts.pointers.OwnedPointer as pointer

module _ (R Z : RattleType) (L : Laws Z) (g : Ghosts Z.Denot) where
  abbrev pub Pointer : RattleType
  Pointer = pointer.the_row R Z g

  pub pointer_good : (b o : ℕ) (word : Val) → Good (layout Z) word → T (has_ty (layout Z) word && true) × WT (both (vptr b o) word)
  pointer_good b o word fits = (and_tt (has_ty (layout Z) word) fits.0, (tt, (fits.1, tt)))

  module _ {M : Type 1} {𝓤 : Ura M} {𝓛 : Logic 𝓤} {K : Type 0} {Γ : List (Item 𝓤)} {G : Goal 𝓤 𝓛.H} where
    pub pointer_out : K → (d : Pointer.Denot) (words : List Val)
        → ((b o : ℕ) (word : Val) → d.at ≡ block_ptr b o → words ≡ both (vptr b o) word ∷ [] → Good (layout Z) word
        → Seq K 𝓛 (‵ (box_owns (g.dealloc_token d.alloc) R (block_ptr b o) d.value) ∷ ‵ (Z.own_val d.alloc (word ∷ [])) ∷ Γ) G)
        → Seq K 𝓛 (‵ (Pointer.own_val d words) ∷ Γ) G
    pointer_out t d words then =
        fsplit t $ apart Z L g t d.at d.alloc words (λ word are fits. move t (1 ∷ []) $
        in_a_block t d.at (λ p. box_owns (g.dealloc_token d.alloc) R p d.value) (fst∗ 𝓤 (never 𝓤) (sem 𝓛 (g.dealloc_token d.alloc (bare (lone R.mir)) null_ptr))) (λ b o at.
        then b o word at (subst (λ (p : Ptr). words ≡ both (ptr_val p) word ∷ []) at are) fits))

    pub pointer_in : K → (b o : ℕ) (word : Val) (alloc : Z.Denot) (value : R.Denot)
        → Step K 𝓛 (‵ (Pointer.own_val (record { at = block_ptr b o; alloc = alloc; value = value }) (both (vptr b o) word ∷ [])) ∷ Γ) G
        (‵ (box_owns (g.dealloc_token alloc) R (block_ptr b o) value) ∷ ‵ (Z.own_val alloc (word ∷ [])) ∷ Γ) G
    pointer_in t b o word alloc value = step (λ rest. move t (1 ∷ []) $ together Z L g t (block_ptr b o) alloc word $ fjoin t $ rest)
