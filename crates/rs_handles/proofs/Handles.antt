-- What the handles own: their fields, and what is open behind them. Assumes `Logic`.
--     Z, LZ                     the allocator `Global`, as a row with its laws
--     null_good                 the machine value of a handle that is null has its type
--     null_in, one_in           a handle is made: of nothing; of a value at its pointer
--     handle_out                a handle is null, and nothing is open; or its pointer may be compared, and a value is open
use Rattle.std.proofs.Common.{◌≡◌, ℕ, List, [], ◌∷◌, refl, subst, lit<}
use mathlib.Core.Bool.{true, ◌&&◌}
use lib.Dec.{T}
use seplogic.Ra.Ura.{Ura}
use mir.Raw.{raw as bare}
use mir.Val.{Val, vptr, vnull, has_ty, WT}
use base.Logic.{SProp, ent, guard, never, fst∗, snd∗, via, guard_i}
use base.Fml.{Fml, fsep}
use contract.Monad.{fact_use}
use types.Logic.{Logic, sem}
use types.Kit.{Item, Goal, Seq, Step, step, ‵, given, ◌$◌, move, fsplit, fjoin, feq_i, feq_l, use1, learn}
use denote.RattleType.{RattleType}
use denote.Memory.{lone}
use denote.RawPtr.{Ptr, block_ptr, null_ptr, ptr_val, in_a_block, Testable}
use denote.Param.{layout}
use denote.Param.Laws.{Laws}
use Rattle.core.proofs.cell.Inside.{Good}
use Rattle.core.specs.Ptr.{points_to}
use Rattle.std.specs.Prelude.{Option, None, Some}
use Rattle.std.specs.contracts.alloc.Global as heap
use Rattle.std.proofs.alloc.Global.TheLaws as heap_laws
use Rattle.std_alloc.specs.Box.Ownership.{box_owns}
use Rattle.std_alloc.proofs.ResultValues.{and_tt}
use Rattle.std_heap.specs.contracts.GlobalAllocator.TheImpl.{ghosts}
use Rattle.std.proofs.GlobalToken.{dealloc_token-Testable}
use Rattle.rs_handles.specs.Handles.{handle_owns}
use Rattle.rs_handles.proofs.Fields.{both, Fields, apart, together}

abbrev pub Z : RattleType
Z = heap.the_row

pub LZ : Laws Z
LZ = heap_laws.the_row_laws

pub null_good : (word : Val) → Good (layout Z) word → T (has_ty (layout Z) word && true) × WT (both vnull word)
null_good word fits = (and_tt (has_ty (layout Z) word) fits.0, (record { fits = lit< tt }, (fits.1, tt)))

module _ (R : RattleType) where
  abbrev pub Held : Ptr → Z.Denot → Option R.Denot → List Val → Fml
  Held at alloc value words = fsep ((Fields Z LZ ghosts).own_val (at, (alloc, tt)) words) (handle_owns R alloc at value)

  module _ {M : Type 1} {𝓤 : Ura M} (𝓛 : Logic 𝓤) where
    pub tested : (alloc : Z.Denot) (at : Ptr) (value : R.Denot) → ent 𝓤 (sem 𝓛 (box_owns (ghosts.dealloc_token alloc) R at value)) (guard 𝓤 (Testable at) (sem 𝓛 (box_owns (ghosts.dealloc_token alloc) R at value)))
    tested alloc at value = let right : SProp 𝓤 = sem 𝓛 (ghosts.dealloc_token alloc (bare (lone R.mir)) at) in
        fact_use 𝓤 (Testable at) (via 𝓤 right (snd∗ 𝓤 (sem 𝓛 (points_to R at value)) right) (dealloc_token-Testable 𝓛 alloc (bare (lone R.mir)) at)) (guard_i 𝓤 (Testable at) (sem 𝓛 (box_owns (ghosts.dealloc_token alloc) R at value)))

  module _ {M : Type 1} {𝓤 : Ura M} {𝓛 : Logic 𝓤} {K : Type 0} {Γ : List (Item 𝓤)} {G : Goal 𝓤 𝓛.H} where
    pub null_in : K → (alloc : Z.Denot) (word : Val) → Step K 𝓛 (‵ (Held null_ptr alloc None (both vnull word ∷ [])) ∷ Γ) G (‵ (Z.own_val alloc (word ∷ [])) ∷ Γ) G
    null_in t alloc word = step (λ rest. together Z LZ ghosts t null_ptr alloc word $ feq_i t Ptr null_ptr null_ptr refl $ move t (1 ∷ []) $ fjoin t $ rest)

    pub one_in : K → (b o : ℕ) (alloc : Z.Denot) (word : Val) (value : R.Denot)
        → Step K 𝓛 (‵ (Held (block_ptr b o) alloc (Some value) (both (vptr b o) word ∷ [])) ∷ Γ) G
        (‵ (box_owns (ghosts.dealloc_token alloc) R (block_ptr b o) value) ∷ ‵ (Z.own_val alloc (word ∷ [])) ∷ Γ) G
    one_in t b o alloc word value = step (λ rest. move t (1 ∷ []) $ together Z LZ ghosts t (block_ptr b o) alloc word $ fjoin t $ rest)

    pub handle_out : K → (at : Ptr) (alloc : Z.Denot) (value : Option R.Denot) (words : List Val)
        → ((word : Val) → value ≡ None → words ≡ both vnull word ∷ [] → Good (layout Z) word → Seq K 𝓛 (‵ (Z.own_val alloc (word ∷ [])) ∷ Γ) G)
        → ((b o : ℕ) (word : Val) (x : R.Denot) → at ≡ block_ptr b o → value ≡ Some x → words ≡ both (vptr b o) word ∷ [] → Good (layout Z) word → Testable (block_ptr b o)
        → Seq K 𝓛 (‵ (box_owns (ghosts.dealloc_token alloc) R (block_ptr b o) x) ∷ ‵ (Z.own_val alloc (word ∷ [])) ∷ Γ) G)
        → Seq K 𝓛 (‵ (Held at alloc value words) ∷ Γ) G
    handle_out t at alloc None words none one =
        fsplit t $ apart Z LZ ghosts t at alloc words (λ word are fits. move t (1 ∷ []) $ feq_l t (λ is. none word refl (subst (λ (p : Ptr). words ≡ both (ptr_val p) word ∷ []) is are) fits))
    handle_out t at alloc (Some x) words none one =
        fsplit t $ apart Z LZ ghosts t at alloc words (λ word are fits. move t (1 ∷ []) $
        in_a_block t at (λ p. box_owns (ghosts.dealloc_token alloc) R p x) (fst∗ 𝓤 (never 𝓤) (sem 𝓛 (ghosts.dealloc_token alloc (bare (lone R.mir)) null_ptr))) (λ b o is.
        use1 𝓛 (given (Testable (block_ptr b o)) (‵ (box_owns (ghosts.dealloc_token alloc) R (block_ptr b o) x))) (tested 𝓛 alloc (block_ptr b o) x) $ learn t (λ may.
        one b o word x is refl (subst (λ (p : Ptr). words ≡ both (ptr_val p) word ∷ []) is are) fits may)))
