-- A struct of a pointer and an allocator: its machine value, and what its two fields own. Assumes `Logic`.
--     both                  the machine value of a struct of two fields
--     apart, together       what the struct owns is what its allocator owns, beside a pointer that owns nothing
use Rattle.std.proofs.Common.{◌≡◌, List, [], ◌∷◌, ◌++◌, refl, subst}
use seplogic.Ra.Ura.{Ura}
use mir.Syntax.{impl, tnil, dnil}
use mir.Val.{Val, vstruct, vcons, vnil, of_list}
use types.Logic.{Logic}
use types.Kit.{Item, Goal, Seq, Step, step, ‵, ◌$◌, move, drop, fsplit, fjoin, fpick, fpack, feq_i, feq_l}
use denote.RattleType.{RattleType, Valss}
use denote.Builtin.{RawPtr}
use denote.RawPtr.{Ptr, ptr_val}
use denote.Steps.{nothing}
use denote.Param.{layout}
use denote.Param.Laws.{Laws}
use denote.Struct.Struct.{Struct, within}
use Rattle.core.specs.declared.alloc.Allocator.{Ghosts}
use Rattle.core.proofs.alloc.Calls.{Al, handle_tells}
use Rattle.core.proofs.cell.Inside.{Good}

abbrev pub both : Val → Val → Val
both first second = vstruct (vcons first (vcons second vnil))

module _ (Z : RattleType) (L : Laws Z) (g : Ghosts Z.Denot) where
  abbrev allocator : Al
  allocator = record { row = Z; laws = L; g = g; d = impl [] tnil dnil; drops = impl [] tnil dnil }

  -- names and the types that are written stand in no assertion
  abbrev pub Fields : RattleType
  Fields = Struct (record { name = []; args = []; types = []; fields = RawPtr ∷ Z ∷ [] })

  module _ {M : Type 1} {𝓤 : Ura M} {𝓛 : Logic 𝓤} {K : Type 0} {Γ : List (Item 𝓤)} {G : Goal 𝓤 𝓛.H} where
    pub apart : K → (at : Ptr) (alloc : Z.Denot) (words : List Val)
        → ((word : Val) → words ≡ both (ptr_val at) word ∷ [] → Good (layout Z) word → Seq K 𝓛 (‵ (Z.own_val alloc (word ∷ [])) ∷ Γ) G)
        → Seq K 𝓛 (‵ (Fields.own_val (at, (alloc, tt)) words) ∷ Γ) G
    apart t at alloc words then =
        fpick t (λ parts. fsplit t $ feq_l t (λ is. fsplit t $ feq_l t (λ first. fsplit t $ handle_tells allocator t alloc parts.1.0 (λ word second fits. move t (1 ∷ []) $ drop t $
        then word (subst (λ (ws : List Val). words ≡ vstruct (of_list (ptr_val at ∷ (ws ++ []))) ∷ []) second (subst (λ (ps : List Val). words ≡ vstruct (of_list (ps ++ (parts.1.0 ++ []))) ∷ []) first is)) fits))))

    pub together : K → (at : Ptr) (alloc : Z.Denot) (word : Val)
        → Step K 𝓛 (‵ (Fields.own_val (at, (alloc, tt)) (both (ptr_val at) word ∷ [])) ∷ Γ) G (‵ (Z.own_val alloc (word ∷ [])) ∷ Γ) G
    together t at alloc word = step (λ rest. let whole : Val = both (ptr_val at) word in
        nothing t $ move t (1 ∷ 0 ∷ []) $ fjoin t $ feq_i t (List Val) (ptr_val at ∷ []) (ptr_val at ∷ []) refl $ fjoin t $ feq_i t (List Val) (whole ∷ []) (whole ∷ []) refl $ fjoin t $
        fpack t (Valss (RawPtr ∷ Z ∷ [])) (within (record { name = []; args = []; types = []; fields = RawPtr ∷ Z ∷ [] }) (at, (alloc, tt)) (whole ∷ [])) (ptr_val at ∷ [], (word ∷ [], tt)) $ rest)
