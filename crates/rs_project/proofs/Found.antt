-- The search for fronts, front by front.
use Rattle.std.proofs.Common.{◌≡◌, ◌≢◌, ◌⊎◌, ◌++◌, inl, inr, ℕ, suc, ◌+◌, ◌-◌, ◌<◌, true, List, [], ◌∷◌, length, set, get_or, Result, Ok, Err, Some, slice_get, refl, sym, ap, ◌∙◌, subst, subst₂}
use Rattle.std.proofs.Common.{arith}
use Rattle.std.specs.List.{All}
use Rattle.std.specs.Prelude.{IfErr, IfOk, OnErr}
use Rattle.std.proofs.lemmas.Bool.Decides.{eqb_tells}
use Rattle.std.proofs.lemmas.Option.{none-some}
use Rattle.std.proofs.lemmas.List.{get_or-set_same, get_or-set_other}
use Rattle.rs_model.specs.Data.{Protocol_data}
use Rattle.rs_model.specs.declared.graph.Role.{Role}
use Rattle.rs_model.specs.declared.machines.State.{State}
use Rattle.rs_project.specs.Data.{Front_data}
use Rattle.rs_project.specs.Filing.{lone_front}
use Rattle.rs_project.specs.Graph.{Involves, MeetsFirst, MeetsTheEnd}
use Rattle.rs_graph.specs.Lists.{Among}
use Rattle.rs_project.specs.Marks.{IsSurvey, StandsFor, Survey_data}
use Rattle.rs_project.specs.Refusals.{FirstRefusal}
use Rattle.rs_project.specs.Working.{AddsFront, FaultFrom, FindsFrom, IsFrontFrom, IsSearch, Search_data, Working}
use Rattle.rs_project.specs.declared.projecting.ProjFault.{ProjFault}
use Rattle.rs_project.specs.declared.projecting.ProjFault.TheVariants.{Unmergeable, Unreached, TooManyStates, NoMemory}
use Rattle.rs_project.proofs.Lists.{contained, contains}
use Rattle.rs_project.proofs.Lone.{lone_front_shown, meets_only}
use Rattle.rs_project.proofs.Meetings.{meets_some}
use Rattle.rs_project.proofs.Numbers.{found_adds, keeps_adds}
use Rattle.rs_project.proofs.Steps.{front_root, working_begin}

pub some_among : (xs : List ℕ) → xs ≢ [] → (x : ℕ) × Among xs x
some_among [] some = absurd (some refl)
some_among (x ∷ xs) some = (x, inl refl)

-- what is met from the end of all runs is met from where they begin
pub from_starts : (pr : Protocol_data) (role : Role) (starts : List ℕ) (first end : ℕ) (f : Front_data) → Among starts first → ((s : ℕ) → Among starts s → StandsFor pr role s end)
    → IsFrontFrom pr role (end ∷ []) f
    → IsFrontFrom pr role starts f
from_starts pr role starts first end f some stand is = record {
  rising = is.rising;
  talks = λ t. (
    (λ h. (let m = (is.talks t).0 h in elim m.among [
      | inl e ↦ (let P : ℕ → Type 0 = λ z. MeetsFirst pr role z t in record { start = first; among = some; meets = ((stand first some).meets t).1 (subst P (sym e) m.meets) })
      | inr bad ↦ absurd bad
    ])),
    (λ m. (is.talks t).1 record { start = end; among = inl refl; meets = ((stand m.start m.among).meets t).0 m.meets }),
  );
  ends = (
    (λ e. (let m = is.ends.0 e in elim m.among [
      | inl k ↦ (let P : ℕ → Type 0 = λ z. MeetsTheEnd pr role z in record { start = first; among = some; ends = (stand first some).ends.1 (subst P (sym k) m.ends) })
      | inr bad ↦ absurd bad
    ])),
    (λ m. is.ends.1 record { start = end; among = inl refl; ends = (stand m.start m.among).ends.0 m.ends }),
  );
}

pub from_start : (pr : Protocol_data) (role : Role) (start end : ℕ) (f : Front_data) → StandsFor pr role start end → IsFrontFrom pr role (end ∷ []) f → IsFrontFrom pr role (start ∷ []) f
from_start pr role start end f s is = from_starts pr role (start ∷ []) start end f (inl refl) (λ x m. only x m) is
  where
    only : (x : ℕ) → Among (start ∷ []) x → StandsFor pr role x end
    only x (inl e) = let P : ℕ → Type 0 = λ z. StandsFor pr role z end in subst P e s
    only x (inr bad) = absurd bad

from_all : (pr : Protocol_data) (role : Role) (starts : List ℕ) (end : ℕ) (f : Front_data) → starts ≢ [] → All (λ s. StandsFor pr role s end) starts → IsFrontFrom pr role (end ∷ []) f
    → IsFrontFrom pr role starts f
from_all pr role starts end f some all is =
    let first = some_among starts some in
    from_starts pr role starts first.0 end f first.1 (λ s m. (let at = contains starts s m in let P : ℕ → Type 0 = λ z. StandsFor pr role z end in subst P at.2 (all at.0 s at.1))) is

-- what is met from the end of all runs has the number of what is met from where they begin
pub finds_all : (pr : Protocol_data) (role : Role) (old : List Front_data) (starts : List ℕ) (end : ℕ) (new : List Front_data) (r : Result ℕ ProjFault) → starts ≢ []
    → All (λ s. StandsFor pr role s end) starts
    → IfOk r (λ n. FindsFrom pr role old (end ∷ []) new n) → IfOk r (λ n. FindsFrom pr role old starts new n)
finds_all pr role old starts end new (Ok n) some all h = record { front = h.front; is_front = from_all pr role starts end h.front some all h.is_front; adds = h.adds }
finds_all pr role old starts end new (Err e) some all h = tt

pub fault_all : (pr : Protocol_data) (role : Role) (old : List Front_data) (starts : List ℕ) (end : ℕ) (r : Result ℕ ProjFault) → starts ≢ [] → All (λ s. StandsFor pr role s end) starts
    → IfErr r (λ e. FaultFrom pr role old (end ∷ []) e) → IfErr r (λ e. FaultFrom pr role old starts e)
fault_all pr role old starts end (Ok n) some all h = tt
fault_all pr role old starts end (Err (Unmergeable r a b)) some all h = absurd h
fault_all pr role old starts end (Err (Unreached r n)) some all h = absurd h
fault_all pr role old starts end (Err (TooManyStates r)) some all h =
    (h.0, record { front = h.1.front; is_front = from_all pr role starts end h.1.front some all h.1.is_front; many = h.1.many; new = h.1.new })
fault_all pr role old starts end (Err NoMemory) some all h = tt

-- the number of what is met from the end of the run of one start
pub finds_run : (pr : Protocol_data) (role : Role) (old : List Front_data) (start end : ℕ) (new : List Front_data) (r : Result ℕ ProjFault) → StandsFor pr role start end
    → IfOk r (λ n. FindsFrom pr role old (end ∷ []) new n) → IfOk r (λ n. FindsFrom pr role old (start ∷ []) new n)
finds_run pr role old start end new (Ok n) s h = record { front = h.front; is_front = from_start pr role start end h.front s h.is_front; adds = h.adds }
finds_run pr role old start end new (Err e) s h = tt

pub fault_run : (pr : Protocol_data) (role : Role) (old : List Front_data) (start end : ℕ) (r : Result ℕ ProjFault) → StandsFor pr role start end
    → IfErr r (λ e. FaultFrom pr role old (end ∷ []) e) → IfErr r (λ e. FaultFrom pr role old (start ∷ []) e)
fault_run pr role old start end (Ok n) s h = tt
fault_run pr role old start end (Err (Unmergeable r a b)) s h = absurd h
fault_run pr role old start end (Err (Unreached r n)) s h = absurd h
fault_run pr role old start end (Err (TooManyStates r)) s h = (h.0, record { front = h.1.front; is_front = from_start pr role start end h.1.front s h.1.is_front; many = h.1.many; new = h.1.new })
fault_run pr role old start end (Err NoMemory) s h = tt

-- a run that ends at a talk of the role
pub lone_from : (pr : Protocol_data) (role : Role) (start end : ℕ) → Involves pr role end → StandsFor pr role start end → IsFrontFrom pr role (start ∷ []) (lone_front end)
lone_from pr role start end i s = lone_front_shown pr role (start ∷ []) start end (lone_front end) refl refl (meets_only pr role start end i s)

-- a front from starts is found
pub search_adds : (search : Search_data) (new : List Front_data) (numbers starts : List ℕ) (s : ℕ) (f : Front_data) (n : ℕ) → IsSearch search numbers → Among starts s
    → IsFrontFrom search.survey.protocol search.survey.role starts f → AddsFront search.fronts f new n → IsSearch record { survey = search.survey; fronts = new } numbers
search_adds search new numbers starts s f n is among front adds = record {
  known = is.known;
  found = found_adds search.survey.protocol search.survey.role search.fronts new f n is.found (λ t h. ((front.talks t).0 (contains f.talks t h)).meets.involved) told adds;
  from = λ x k e. (let r = is.from x k e in (r.0, keeps_adds search.fronts new f n adds k r.0 r.1, r.2));
}
  where
    told : f.talks ≡ [] → f.ends ≡ true
    told e = elim (meets_some search.survey.protocol search.survey.role search.survey is.known.survey s) [
      | inl m ↦ (let P : List ℕ → Type 0 = λ z. Among z m.0 in absurd (subst P e (contained f.talks m.0 ((front.talks m.0).1 record { start = s; among = among; meets = m.1 }))))
      | inr m ↦ front.ends.1 record { start = s; among = among; ends = m }
    ]

pub search_result : (search : Search_data) (new : List Front_data) (numbers starts : List ℕ) (s : ℕ) (f : Front_data) (r : Result ℕ ProjFault) → IsSearch search numbers → Among starts s
    → IsFrontFrom search.survey.protocol search.survey.role starts f → IfOk r (λ n. AddsFront search.fronts f new n) → OnErr r (new ≡ search.fronts)
    → IsSearch record { survey = search.survey; fronts = new } numbers
search_result search new numbers starts s f (Ok n) is among front adds same = search_adds search new numbers starts s f n is among front adds
search_result search new numbers starts s f (Err e) is among front adds same =
    let P : List Front_data → Type 0 = λ z. IsSearch record { survey = search.survey; fronts = z } numbers in
    subst P (sym same) record { known = is.known; found = is.found; from = is.from }

pub same_numbers : (search : Search_data) (old new : List ℕ) → ((n : ℕ) → get_or new n 0 ≡ get_or old n 0) → IsSearch search old → IsSearch search new
same_numbers search old new same is = record { known = is.known; found = is.found; from = λ n k e. is.from n k (sym (same n) ∙ e) }

-- the number of a front is noted at the node from which it is met
pub noted_at : (search : Search_data) (numbers : List ℕ) (end n : ℕ) (f : Front_data) → IsSearch search numbers → end < length numbers → slice_get search.fronts n ≡ Some f
    → IsFrontFrom search.survey.protocol search.survey.role (end ∷ []) f → IsSearch search (set numbers end (n + 1))
noted_at search numbers end n f is within at front = record {
  known = is.known;
  found = is.found;
  from = λ x k e. elim (eqb_tells x end) [
    | inl p ↦ (let here : get_or (set numbers end (n + 1)) x 0 ≡ n + 1 = ap (λ (z : ℕ). get_or (set numbers end (n + 1)) z 0) p.1 ∙ get_or-set_same numbers end (n + 1) 0 within in
        let same : n ≡ k = omega (arith, e, here) in
        let P : ℕ → Type 0 = λ z. slice_get search.fronts z ≡ Some f in
        let Q : ℕ → Type 0 = λ z. IsFrontFrom search.survey.protocol search.survey.role (z ∷ []) f in
        (f, subst P same at, subst Q (sym p.1) front))
    | inr p ↦ is.from x k (sym (get_or-set_other numbers end x (n + 1) 0 p.1) ∙ e)
  ];
}

-- the number that is noted is that of the front
pub finds_known : (search : Search_data) (numbers : List ℕ) (start end known : ℕ) → IsSearch search numbers → StandsFor search.survey.protocol search.survey.role start end
    → known ≡ get_or numbers end 0 → 0 < known
    → FindsFrom search.survey.protocol search.survey.role search.fronts (start ∷ []) search.fronts (known - 1)
finds_known search numbers start end known is s e some =
    let k : get_or numbers end 0 ≡ suc (known - 1) = omega (arith, e, some) in
    let r = is.from end (known - 1) k in
    record { front = r.0; is_front = from_start search.survey.protocol search.survey.role start end r.0 s r.2; adds = inl (r.1, refl) }

-- the front from the root is found first
pub working_found : (pr : Protocol_data) (role : Role) (sv : Survey_data) (old new : List Front_data) (states : List State) (root n : ℕ) → IsSurvey pr role sv → root ≡ pr.root → old ≡ [] → states ≡ []
    → FindsFrom pr role old (root ∷ []) new n → Working pr role new states
working_found pr role sv old new states root n is er eo es f =
    let P : List Front_data → List State → Type 0 = λ y z. Working pr role y z in
    let R : ℕ → Type 0 = λ z. IsFrontFrom pr role (z ∷ []) f.front in
    elim f.adds [
      | inl a ↦ (let Q : List Front_data → Type 0 = λ z. slice_get z n ≡ Some f.front in absurd (none-some f.front (subst Q eo a.0)))
      | inr a ↦ subst₂ P (sym (a.1 ∙ ap (λ (z : List Front_data). z ++ (f.front ∷ [])) eo)) (sym es) (working_begin pr role sv f.front is (front_root pr role f.front (subst R er f.is_front)))
    ]

-- only memory may be wanting for it
pub first_fault : (pr : Protocol_data) (role : Role) (old : List Front_data) (starts : List ℕ) → old ≡ [] → (e : ProjFault) → FaultFrom pr role old starts e → (e ≡ NoMemory) ⊎ FirstRefusal pr role e
first_fault pr role old starts eo (Unmergeable r a b) h = absurd h
first_fault pr role old starts eo (Unreached r n) h = absurd h
first_fault pr role old starts eo (TooManyStates r) h = (let m = h.1.many in let l = ap (λ (z : List Front_data). length z) eo in absurd (omega (arith, m, l)))
first_fault pr role old starts eo NoMemory h = inl refl
