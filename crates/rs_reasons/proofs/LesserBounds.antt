-- What is told of a search within a lesser bound.
use Rattle.std.proofs.Common.{◌≡◌, ◌++◌, ◌<◌, ℕ, List, Option, Some, sym, subst, subst₂, length, drop, get_or}
use Rattle.std.proofs.lemmas.List.{drop_more}
use Rattle.rs_derive.specs.Data.{Derivation_data}
use Rattle.rs_model.specs.Data.{Machine_data}
use Rattle.rs_search.specs.Canonical.{IsCanonical, SearchRefuses}
use Rattle.rs_search.specs.declared.faults.SearchFault.{SearchFault}
use Rattle.rs_walk_texts.specs.Data.{WalkSource_data}
use Rattle.rs_reasons.specs.Underivable.{Accepts, Finds, Refuses, TellsReason, TellsSearch, TellsTooLarge, TellsWithin, accepted_line, refused_line}

pub accepts : (source : WalkSource_data) (bound : ℕ) (sub above : Machine_data) (d : Derivation_data) (lines : List ℕ) → sub ≡ source.machine → above ≡ source.projection.machine
    → IsCanonical sub above bound d → lines ≡ accepted_line source bound → TellsSearch source bound lines
accepts source bound sub above d lines e f c t = Accepts d (subst₂ (λ (x : Machine_data) (y : Machine_data). IsCanonical x y bound d) e f c) t

pub refuses : (source : WalkSource_data) (bound : ℕ) (fault : SearchFault) (told : Option (List ℕ)) (reason lines : List ℕ) → SearchRefuses source.machine source.projection.machine bound fault
    → TellsReason source bound fault told → told ≡ Some reason → lines ≡ refused_line source bound ++ reason → TellsSearch source bound lines
refuses source bound fault told reason lines r t e k = Refuses fault r reason (subst (λ (z : Option (List ℕ)). TellsReason source bound fault z) e t) k

-- the bound at a place of the list is less, and a search within it is told
pub finds : (source : WalkSource_data) (bound place none : ℕ) (bounds lines : List ℕ) (told : Option (List ℕ)) → place < length bounds → get_or bounds place none < bound
    → TellsWithin source (get_or bounds place none) told → told ≡ Some lines → TellsTooLarge source bound (drop place bounds) lines
finds source bound place none bounds lines told within less t e =
    subst (λ (z : List ℕ). TellsTooLarge source bound z lines) (sym (drop_more bounds place none within))
    (Finds less (subst (λ (z : Option (List ℕ)). TellsWithin source (get_or bounds place none) z) e t))
