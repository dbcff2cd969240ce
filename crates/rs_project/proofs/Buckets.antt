-- Fronts by their buckets.
use Rattle.std.proofs.Common.{◌≡◌, ℕ, ◌+◌, ◌<◌, List, [], ◌∷◌, ◌++◌, length, Option, Some, None, MatchOption, slice_get, get_or, set, replicate, sym, ◌∙◌, subst, arith}
use Rattle.std.proofs.lemmas.List.{length-set, length-replicate}
use Rattle.rs_model.specs.Chains.{IsChained}
use Rattle.rs_model.proofs.Chains.{chained_none, chained_past, chained_push}
use Rattle.rs_project.specs.Data.{Front_data}
use Rattle.rs_project.specs.Filing.{FrontsAreFiled, IsShared, bucket_of_front, lone_front}
use Rattle.rs_project.specs.Working.{FrontIsNew}
use Rattle.rs_project.specs.declared.filing.TheConstants.{BUCKETS}

pub none_filed : (fs : List Front_data) (heads links : List ℕ) → fs ≡ [] → heads ≡ replicate BUCKETS 0 → links ≡ [] → FrontsAreFiled fs heads links
none_filed fs heads links ef eh el = rw (ef, eh, el) record {
  buckets = length-replicate {A = ℕ} BUCKETS 0;
  chained = chained_none bucket_of_front IsShared BUCKETS;
}

pub filed_on : (fs fs' : List Front_data) (heads links heads' links' : List ℕ) (f : Front_data) (b head n : ℕ) → b ≡ bucket_of_front f → b < BUCKETS → n ≡ length fs → head ≡ get_or heads b 0
    → fs' ≡ fs ++ (f ∷ []) → links' ≡ links ++ (head ∷ []) → heads' ≡ set heads b (n + 1) → FrontsAreFiled fs heads links → FrontsAreFiled fs' heads' links'
filed_on fs fs' heads links heads' links' f b head n eb lt en eh ef el es a =
    let size = a.buckets in
    rw (ef, el, es) record {
      buckets = length-set heads b (n + 1) ∙ a.buckets;
      chained = chained_push bucket_of_front IsShared fs heads links f b head (n + 1) eb (omega arith) (omega arith) eh a.chained;
    }

pub filed_lone : (fs fs' : List Front_data) (heads links links' : List ℕ) (f : Front_data) (talk : ℕ) → f ≡ lone_front talk → fs' ≡ fs ++ (f ∷ []) → links' ≡ links ++ (0 ∷ [])
    → FrontsAreFiled fs heads links → FrontsAreFiled fs' heads links'
filed_lone fs fs' heads links links' f talk lone ef el a = rw (ef, el) record {
  buckets = a.buckets;
  chained = chained_past bucket_of_front IsShared fs heads links f (λ shared. shared talk lone) a.chained;
}

pub looked_all : (fs : List Front_data) (heads links : List ℕ) (f : Front_data) (head : ℕ) (o : Option ℕ) → IsShared f → FrontsAreFiled fs heads links → head ≡ get_or heads (bucket_of_front f) 0
    → MatchOption o ((n : ℕ) → IsChained links head n → slice_get fs n ≡ Some f → ⊥) (λ n. slice_get fs n ≡ Some f) → MatchOption o (FrontIsNew fs f) (λ n. slice_get fs n ≡ Some f)
looked_all fs heads links f head (Some n) shared filed is found = found
looked_all fs heads links f head None shared filed is none = λ k e. none k (subst (λ (z : ℕ). IsChained links z k) (sym is) (filed.chained.filed k f e shared)) e
