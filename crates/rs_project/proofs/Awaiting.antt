-- Nodes that are awaited, and never unreached, by what they lead to.
use Rattle.std.proofs.Common.{◌≡◌, inl, inr, ℕ, Bool, true, false, List, [], ◌∷◌, get_or, set, Some, slice_get, refl, sym, subst, if◌then◌else◌}
use Rattle.rs_model.specs.Data.{Protocol_data}
use Rattle.rs_model.specs.declared.graph.Arm.{Arm}
use Rattle.rs_model.specs.declared.graph.Node.{Node}
use Rattle.rs_model.specs.declared.graph.Node.TheVariants.{Finished, Talk}
use Rattle.rs_model.specs.declared.graph.Role.{Role}
use Rattle.rs_graph.specs.Lists.{Among}
use Rattle.rs_project.specs.Awaited.{HasNoUnreached, MarksNode, all_on}
use Rattle.rs_project.specs.Graph.{LeadsTo, Involves}
use Rattle.rs_project.specs.Marks.{IsOn, IsSurvey, Survey_data, arms_of_node, nexts_of_node}
use Rattle.rs_project.specs.Numbered.{nexts_of}
use Rattle.rs_project.specs.Refusals.{NoneUnreached}
use Rattle.rs_project.proofs.Cycles.{passes_unreached}
use Rattle.rs_project.proofs.Flags.{set_only}
use Rattle.rs_project.proofs.Peels.{onward}
use Rattle.rs_project.proofs.Spread.{leads_among}

all_each : (flags : List Bool) (arms : List Arm) (next : ℕ) → Among (nexts_of arms) next → all_on flags arms ≡ true → IsOn flags next
all_each flags [] next m h = absurd m
all_each flags (a ∷ arms) next m h = go (get_or flags a.next false) refl m h (λ k g. all_each flags arms next k g)
  where
    go : (b : Bool) → get_or flags a.next false ≡ b → Among (nexts_of (a ∷ arms)) next → (if b then all_on flags arms else false) ≡ true
        → (Among (nexts_of arms) next → all_on flags arms ≡ true → IsOn flags next) → IsOn flags next
    go true e (inl k) g rest = (let P : ℕ → Type 0 = λ z. IsOn flags z in subst P k e)
    go true e (inr k) g rest = rest k g
    go false e k g rest = absurd (cc (g))

all_led : (pr : Protocol_data) (flags : List Bool) (n place next : ℕ) (node : Node) → slice_get pr.nodes n ≡ Some node → LeadsTo pr n place next → all_on flags (arms_of_node node) ≡ true → IsOn flags next
all_led pr flags n place next Finished is goes all = absurd (leads_among pr n place next Finished is goes)
all_led pr flags n place next (Talk sender receiver arms) is goes all = all_each flags arms next (leads_among pr n place next (Talk sender receiver arms) is goes) all

reached_more : (pr : Protocol_data) (role : Role) (flags : List Bool) (n : ℕ) (node : Node) → slice_get pr.nodes n ≡ Some node → all_on flags (arms_of_node node) ≡ true → HasNoUnreached pr role flags
    → HasNoUnreached pr role (set flags n true)
reached_more pr role flags n node is all none = λ m u on. elim (set_only flags n m on) [
  | inl k ↦ none m u k
  | inr e ↦ (let o = onward pr role m u in
      let P : ℕ → Type 0 = λ z. LeadsTo pr z o.0 o.1 in
      none o.1 o.3 (all_led pr flags n o.0 o.1 node is (subst P (sym e) o.2) all))
]

-- so no more are where a node was marked that leads to flagged ones alone
pub reached_node : (pr : Protocol_data) (role : Role) (awaited passing : List Bool) (ends : List ℕ) (awaited' passing' : List Bool) (ends' : List ℕ) (n : ℕ) (node : Node)
    → slice_get pr.nodes n ≡ Some node → MarksNode (arms_of_node node) n true awaited passing ends awaited' passing' ends' → HasNoUnreached pr role awaited → HasNoUnreached pr role awaited'
reached_node pr role awaited passing ends awaited' passing' ends' n node is marks none =
    let P : List Bool → Type 0 = λ z. HasNoUnreached pr role z in
    subst P (sym marks.is_awaited) (reached_more pr role awaited n node is (marks.all refl) none)

-- no talk of the role is unreached
pub reached_own : (pr : Protocol_data) (role : Role) (flags : List Bool) (n : ℕ) → Involves pr role n → HasNoUnreached pr role flags → HasNoUnreached pr role (set flags n true)
reached_own pr role flags n own none = λ m u on. elim (set_only flags n m on) [
  | inl k ↦ none m u k
  | inr e ↦ (let P : ℕ → Type 0 = λ z. Involves pr role z in (passes_unreached pr role m u).uninvolved (subst P e own))
]

-- where a node leads to flagged nodes alone, all after it are flagged
pub behind_flagged : (pr : Protocol_data) (flags : List Bool) (n next : ℕ) (node : Node) → slice_get pr.nodes n ≡ Some node → all_on flags (arms_of_node node) ≡ true → Among (nexts_of_node node) next
    → IsOn flags next
behind_flagged pr flags n next Finished is all m = absurd m
behind_flagged pr flags n next (Talk sender receiver arms) is all m = all_each flags arms next m all

-- where no unreached node is awaited, there is none
pub none_unreached : (pr : Protocol_data) (role : Role) (survey : Survey_data) → IsSurvey pr role survey → HasNoUnreached pr role survey.awaited → NoneUnreached pr role
none_unreached pr role survey is none = λ n u. (passes_unreached pr role n u).awaited (is.idle n (none n u))
