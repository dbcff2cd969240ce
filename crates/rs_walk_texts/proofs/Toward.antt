-- Talks of a walk lie on one way: from behind the one the role may meet the next one first.
use Rattle.std.proofs.Common.{append_assoc, ◌≡◌, ◌≢◌, ◌⊎◌, inl, inr, ℕ, ◌<◌, ◌≤◌, ◌+◌, ◌-◌, zero, suc, Bool, true, false, not, ◌&&◌, ◌||◌, ◌==◌, List, [], ◌∷◌, ◌++◌, length, drop, replicate, set, get_or, slice_get, Option, Some, None, refl, sym, ap, ap₂, subst, ◌∙◌, arith, if◌then◌else◌}
use Rattle.std.proofs.lemmas.Bool.{and_parts, cases_Bool, eq-eqb, false≢true}
use Rattle.std.proofs.lemmas.List.{drop-set, get_or_past, length-set}
use Rattle.std.proofs.lemmas.Option.{none-some, same_Some}
use Rattle.std.proofs.Math.ListN.{drop_of_length-le}
use Rattle.rs_derive.specs.Moves.{Spot}
use Rattle.rs_explain.specs.Walks.{WalkStep_data}
use Rattle.rs_graph.proofs.Growth.{drop_here}
use Rattle.rs_model.specs.Data.{Protocol_data}
use Rattle.rs_model.specs.FirstFailed.{or_later}
use Rattle.rs_model.specs.declared.graph.Arm.{Arm}
use Rattle.rs_model.specs.declared.graph.Label.{Label}
use Rattle.rs_model.specs.declared.graph.Node.{Node}
use Rattle.rs_model.specs.declared.graph.Node.TheVariants.{Finished, Talk}
use Rattle.rs_model.specs.declared.graph.Role.{Role}
use Rattle.rs_project.proofs.Flags.{none_on, set_only}
use Rattle.rs_project.specs.Graph.{Involves, IsPath, LeadsTo, MeetsFirst, PassesBy}
use Rattle.rs_walk_texts.specs.Data.{WalkSource_data}
use Rattle.rs_walk_texts.specs.OneWay.{any_on, first_some, flagged, is_own, leads_on, meeting, spread_over, toward}
use Rattle.rs_walk_texts.specs.Passed.{first_flagged, first_talk, passed_talk, talk_with, talks_of}
use Rattle.rs_walk_texts.specs.Owing.{owed_after, owed_along}
use Rattle.rs_walk_texts.specs.Walks.{lines_text, rule_of, spot_before, step_talk, step_text, talks_along}
use Rattle.rs_walk_texts.specs.declared.passed.TalkArm.{TalkArm}

-- flags that spread

pub spread_length : (role : Role) (all : List Bool) (nodes : List Node) (flags : List Bool) → length flags ≡ length nodes → length (spread_over role all nodes flags) ≡ length nodes
spread_length role all [] flags e = refl
spread_length role all (node ∷ nodes) [] e = let bad : ⊥ = omega arith in absurd bad
spread_length role all (node ∷ nodes) (b ∷ flags) e = ap suc (spread_length role all nodes flags (let k : length flags ≡ length nodes = omega arith in k))

-- one flag more
pub spread_on : (role : Role) (all : List Bool) (nodes : List Node) (flags done : List Bool) (n : ℕ) (v : Bool) (node : Node) (b : Bool) → slice_get nodes n ≡ Some node → slice_get flags n ≡ Some b
    → v ≡ (b || (not (is_own role node) && leads_on all node))
    → (done ++ v ∷ []) ++ spread_over role all (drop (n + 1) nodes) (drop (n + 1) flags) ≡ done ++ spread_over role all (drop n nodes) (drop n flags)
spread_on role all nodes flags done n v node b sn sb e =
    append_assoc done (v ∷ []) (spread_over role all (drop (n + 1) nodes) (drop (n + 1) flags))
    ∙ ap (λ (z : Bool). done ++ z ∷ spread_over role all (drop (n + 1) nodes) (drop (n + 1) flags)) e
    ∙ sym (ap₂ (λ (y : List Node) (z : List Bool). done ++ spread_over role all y z) (drop_here nodes n node sn) (drop_here flags n b sb))

settled : (nodes : List Node) (role : Role) (talk k more : ℕ) (flags : List Bool) → flags ≡ toward nodes role talk k → spread_over role flags nodes flags ≡ flags → toward nodes role talk (more + k) ≡ flags
settled nodes role talk k zero flags e s = (let none : 0 + k ≡ k = omega arith in ap (λ (z : ℕ). toward nodes role talk z) none ∙ sym e)
settled nodes role talk k (suc more) flags e s = (let one : suc more + k ≡ suc (more + k) = omega arith in
    ap (λ (z : ℕ). toward nodes role talk z) one ∙ ap (λ (z : List Bool). spread_over role z nodes z) (settled nodes role talk k more flags e s) ∙ s)

-- flags that stay when they spread once more are those of all that may be met
pub meeting_is : (nodes : List Node) (role : Role) (talk k : ℕ) (flags next : List Bool) → flags ≡ toward nodes role talk k → k ≤ length nodes → next ≡ spread_over role flags nodes flags → next ≡ flags
    → flags ≡ meeting nodes role talk
meeting_is nodes role talk k flags next e le n same =
    let count : (length nodes - k) + k ≡ length nodes = omega arith in
    sym (settled nodes role talk k (length nodes - k) flags e (sym n ∙ same)) ∙ ap (λ (z : ℕ). toward nodes role talk z) count

-- what they tell

or_parts : (a b : Bool) → (a || b) ≡ true → (a ≡ true) ⊎ (b ≡ true)
or_parts true b e = inl refl
or_parts false b e = inr e

off : (b : Bool) → not b ≡ true → b ≡ false
off true e = absurd (false≢true e)
off false e = refl

-- a node that is flagged anew: a talk of others that leads to a flagged one
record IsFlaggedAnew (role : Role) (all : List Bool) (nodes : List Node) (n : ℕ) : Type 0 where
  pub node : Node
  pub stands : slice_get nodes n ≡ Some node
  pub others : is_own role node ≡ false
  pub leads : leads_on all node ≡ true

spread_is : (role : Role) (all : List Bool) (nodes : List Node) (flags : List Bool) (n : ℕ) → get_or (spread_over role all nodes flags) n false ≡ true
    → (get_or flags n false ≡ true) ⊎ IsFlaggedAnew role all nodes n
spread_is role all [] flags n e = absurd (false≢true (sym (get_or_past [] n false (omega arith)) ∙ e))
spread_is role all (node ∷ nodes) [] n e = absurd (false≢true (sym (get_or_past [] n false (omega arith)) ∙ e))
spread_is role all (node ∷ nodes) (b ∷ flags) zero e = elim (or_parts b (not (is_own role node) && leads_on all node) e) [
  | inl y ↦ inl y
  | inr k ↦ (let p = and_parts (not (is_own role node)) (leads_on all node) k in
      inr (record { node = node; stands = refl; others = off (is_own role node) p.0; leads = p.1 }))
]
spread_is role all (node ∷ nodes) (b ∷ flags) (suc n) e = elim (spread_is role all nodes flags n e) [
  | inl y ↦ inl y
  | inr k ↦ inr (record { node = k.node; stands = k.stands; others = k.others; leads = k.leads })
]

-- an arm of these that leads to a flagged node
record AnArm (all : List Bool) (arms : List Arm) : Type 0 where
  pub place : ℕ
  pub arm : Arm
  pub stands : slice_get arms place ≡ Some arm
  pub flag_is : get_or all arm.next false ≡ true

some_arm : (all : List Bool) (arms : List Arm) → any_on all arms ≡ true → AnArm all arms
some_arm all [] e = absurd (false≢true e)
some_arm all (a ∷ arms) e = elim (or_parts (get_or all a.next false) (any_on all arms) e) [
  | inl y ↦ record { place = 0; arm = a; stands = refl; flag_is = y }
  | inr n ↦ (let k = some_arm all arms n in record { place = suc k.place; arm = k.arm; stands = k.stands; flag_is = k.flag_is })
]

or_is : (a b : Bool) → (a ≡ true) ⊎ (b ≡ true) → (a || b) ≡ true
or_is true b h = refl
or_is false b (inl e) = absurd (false≢true e)
or_is false b (inr e) = e

-- a talk of others doesn't involve the role
not_involved : (pr : Protocol_data) (role : Role) (n : ℕ) (node : Node) → slice_get pr.nodes n ≡ Some node → is_own role node ≡ false → Involves pr role n → ⊥
not_involved pr role n node s o i =
    let same : node ≡ Talk i.sender i.receiver i.arms = same_Some node (Talk i.sender i.receiver i.arms) (sym s ∙ i.talks) in
    let on : is_own role (Talk i.sender i.receiver i.arms) ≡ true = or_is (i.sender.0 == role.0) (i.receiver.0 == role.0) (elim i.part [
      | inl e ↦ inl (eq-eqb i.sender.0 role.0 (ap (λ (z : Role). z.0) e))
      | inr e ↦ inr (eq-eqb i.receiver.0 role.0 (ap (λ (z : Role). z.0) e))
    ]) in
    false≢true (sym o ∙ ap (λ (z : Node). is_own role z) same ∙ on)

-- one talk of others before what is met first
met_before : (pr : Protocol_data) (role : Role) (n place next talk : ℕ) → LeadsTo pr n place next → (Involves pr role n → ⊥) → MeetsFirst pr role next talk → MeetsFirst pr role n talk
met_before pr role n place next talk l un m =
    let path : IsPath pr n (record { node = n; place = place } ∷ m.steps) talk = (next, refl, l, m.path) in
    let passes : PassesBy pr role n = record { uninvolved = un; awaited = λ idle. idle talk (record { node = n; place = place } ∷ m.steps, path) m.involved } in
    record {
      steps = record { node = n; place = place } ∷ m.steps;
      path = path;
      earlier = (passes, m.earlier);
      involved = m.involved;
    }

flagged_anew : (pr : Protocol_data) (role : Role) (all : List Bool) (n talk : ℕ) → ((k : ℕ) → get_or all k false ≡ true → MeetsFirst pr role k talk) → IsFlaggedAnew role all pr.nodes n → MeetsFirst pr role n talk
flagged_anew pr role all n talk on f = by f.node f.stands f.others f.leads
  where
    by : (node : Node) → slice_get pr.nodes n ≡ Some node → is_own role node ≡ false → leads_on all node ≡ true → MeetsFirst pr role n talk
    by Finished s o l = absurd (false≢true l)
    by (Talk sender receiver arms) s o l =
        let a = some_arm all arms l in
        let leads : LeadsTo pr n a.place a.arm.next = record { sender = sender; receiver = receiver; arms = arms; arm = a.arm; talks = s; stands = a.stands; leads = refl } in
        met_before pr role n a.place a.arm.next talk leads (not_involved pr role n (Talk sender receiver arms) s o) (on a.arm.next a.flag_is)

pub toward_meets : (pr : Protocol_data) (role : Role) (talk k n : ℕ) → Involves pr role talk → get_or (toward pr.nodes role talk k) n false ≡ true → MeetsFirst pr role n talk
toward_meets pr role talk zero n i e = elim (set_only (replicate (length pr.nodes) false) talk n e) [
  | inl none ↦ absurd (none_on (length pr.nodes) n none)
  | inr same ↦ subst (λ (z : ℕ). MeetsFirst pr role z talk) same (record { steps = []; path = refl; earlier = tt; involved = i })
]
toward_meets pr role talk (suc k) n i e = elim (spread_is role (toward pr.nodes role talk k) pr.nodes (toward pr.nodes role talk k) n e) [
  | inl was ↦ toward_meets pr role talk k n i was
  | inr new ↦ flagged_anew pr role (toward pr.nodes role talk k) n talk (λ m f. toward_meets pr role talk k m i f) new
]

-- the talk that is told

flagged_leads : (flags : List Bool) (o : Option TalkArm) (t : TalkArm) → flagged flags o ≡ Some t → get_or flags t.arm.next false ≡ true
flagged_leads flags None t e = absurd (none-some t e)
flagged_leads flags (Some u) t e = elim (cases_Bool (get_or flags u.arm.next false)) [
  | inl y ↦ (let same : u ≡ t = same_Some u t (subst (λ (b : Bool). (if b then Some u else None) ≡ Some t) y e) in subst (λ (z : TalkArm). get_or flags z.arm.next false ≡ true) same y)
  | inr n ↦ absurd (none-some t (subst (λ (b : Bool). (if b then Some u else None) ≡ Some t) n e))
]

first_leads : (nodes : List Node) (flags : List Bool) (label : Label) (numbers : List ℕ) (t : TalkArm) → first_flagged nodes flags label numbers ≡ Some t → get_or flags t.arm.next false ≡ true
first_leads nodes flags label [] t e = absurd (none-some t e)
first_leads nodes flags label (n ∷ later) t e = by (flagged flags (talk_with n label (slice_get nodes n))) refl (λ k. first_leads nodes flags label later t k) e
  where
    by : (o : Option TalkArm) → flagged flags (talk_with n label (slice_get nodes n)) ≡ o → (first_flagged nodes flags label later ≡ Some t → get_or flags t.arm.next false ≡ true)
        → or_later o (first_flagged nodes flags label later) ≡ Some t → get_or flags t.arm.next false ≡ true
    by None k on e = on e
    by (Some u) k on e = flagged_leads flags (talk_with n label (slice_get nodes n)) t (k ∙ e)

pub on_one_way : (source : WalkSource_data) (above : ℕ) (label : Label) (next t : TalkArm) → Involves source.protocol source.machine.role next.number
    → first_flagged source.protocol.nodes (meeting source.protocol.nodes source.machine.role next.number) label (talks_of source above) ≢ None
    → passed_talk source above label (Some next) ≡ Some t → MeetsFirst source.protocol source.machine.role t.arm.next next.number
on_one_way source above label next t i some e =
    by (first_flagged source.protocol.nodes (meeting source.protocol.nodes source.machine.role next.number) label (talks_of source above)) refl e
  where
    by : (o : Option TalkArm) → first_flagged source.protocol.nodes (meeting source.protocol.nodes source.machine.role next.number) label (talks_of source above) ≡ o
        → or_later o (first_talk source.protocol.nodes label (talks_of source above)) ≡ Some t → MeetsFirst source.protocol source.machine.role t.arm.next next.number
    by None k e = absurd (some k)
    by (Some u) k e = toward_meets source.protocol source.machine.role next.number (length source.protocol.nodes) t.arm.next i
        (first_leads source.protocol.nodes (meeting source.protocol.nodes source.machine.role next.number) label (talks_of source above) t (k ∙ e))

-- of one talk at most the first is told
pub told_alone : (source : WalkSource_data) (above : ℕ) (label : Label) (next : TalkArm) → length (talks_of source above) < 2
    → passed_talk source above label (Some next) ≡ first_talk source.protocol.nodes label (talks_of source above)
told_alone source above label next few = by (talks_of source above) few
  where
    flags : List Bool
    flags = meeting source.protocol.nodes source.machine.role next.number

    one : (o : Option TalkArm) → or_later (or_later (flagged flags o) None) (or_later o None) ≡ or_later o None
    one None = refl
    one (Some u) = elim (cases_Bool (get_or flags u.arm.next false)) [
      | inl y ↦ subst (λ (b : Bool). or_later (or_later (if b then Some u else None) None) (Some u) ≡ Some u) (sym y) refl
      | inr n ↦ subst (λ (b : Bool). or_later (or_later (if b then Some u else None) None) (Some u) ≡ Some u) (sym n) refl
    ]

    by : (numbers : List ℕ) → length numbers < 2 → or_later (first_flagged source.protocol.nodes flags label numbers) (first_talk source.protocol.nodes label numbers) ≡ first_talk source.protocol.nodes label numbers
    by [] lt = refl
    by (n ∷ []) lt = one (talk_with n label (slice_get source.protocol.nodes n))
    by (n ∷ m ∷ more) lt = let bad : ⊥ = omega arith in absurd bad

-- along a walk

before_next : (p : Spot) (steps : List WalkStep_data) (i : ℕ) (s : WalkStep_data) → slice_get steps i ≡ Some s → spot_before p steps (suc i) ≡ s.spot
before_next p [] i s e = absurd (none-some s e)
before_next p (t ∷ later) zero s e = first_is later ∙ ap (λ (z : WalkStep_data). z.spot) (same_Some t s e)
  where
    first_is : (steps : List WalkStep_data) → spot_before t.spot steps zero ≡ t.spot
    first_is [] = refl
    first_is (u ∷ more) = refl
before_next p (t ∷ later) (suc i) s e = before_next t.spot later i s e

pub before_is : (p : Spot) (steps : List WalkStep_data) (n : ℕ) (s : WalkStep_data) → 0 < n → slice_get steps (n - 1) ≡ Some s → s.spot ≡ spot_before p steps n
before_is p steps zero s lt e = let bad : ⊥ = omega arith in absurd bad
before_is p steps (suc n) s lt e = (let same : suc n - 1 ≡ n = omega arith in sym (before_next p steps n s (subst (λ (z : ℕ). slice_get steps z ≡ Some s) same e)))

pub before_first : (p : Spot) (steps : List WalkStep_data) (n : ℕ) → n ≤ 0 → p ≡ spot_before p steps n
before_first p [] zero le = refl
before_first p (s ∷ later) zero le = refl
before_first p steps (suc n) le = let bad : ⊥ = omega arith in absurd bad

-- the talks of the last steps were found
pub record AreFoundFrom (source : WalkSource_data) (p : Spot) (steps : List WalkStep_data) (left : ℕ) (talks : List (Option TalkArm)) (next : Option TalkArm) : Type 0 where
  pub size : length talks ≡ length steps
  pub within : left ≤ length steps
  pub behind : drop left talks ≡ talks_along source (spot_before p steps left) (drop left steps)
  pub next_is : next ≡ first_some (drop left talks)

pub found_none : (source : WalkSource_data) (p : Spot) (steps : List WalkStep_data) (left : ℕ) (talks : List (Option TalkArm)) → length talks ≡ length steps → left ≡ length steps
    → AreFoundFrom source p steps left talks None
found_none source p steps left talks size e =
    let a : drop left talks ≡ [] = drop_of_length-le talks (omega arith) in
    let b : drop left steps ≡ [] = drop_of_length-le steps (omega arith) in
    record {
      size = size;
      within = omega arith;
      behind = a ∙ ap (λ (z : List WalkStep_data). talks_along source (spot_before p steps left) z) (sym b);
      next_is = ap first_some (sym a);
    }

pub found_on : (source : WalkSource_data) (p : Spot) (steps : List WalkStep_data) (left : ℕ) (talks : List (Option TalkArm)) (next talk : Option TalkArm) (s : WalkStep_data) → 0 < left
    → AreFoundFrom source p steps left talks next → slice_get steps (left - 1) ≡ Some s → talk ≡ step_talk source (spot_before p steps (left - 1)) s next
    → AreFoundFrom source p steps (left - 1) (set talks (left - 1) talk) (or_later talk next)
found_on source p steps left talks next talk s lt f e t =
    let up : left - 1 + 1 ≡ left = omega arith in
    let here : drop (left - 1) (set talks (left - 1) talk) ≡ talk ∷ drop left talks =
    drop-set talks (left - 1) talk (let a = f.size in let b = f.within in omega arith) ∙ ap (λ (z : ℕ). talk ∷ drop z talks) up in
    let there : drop (left - 1) steps ≡ s ∷ drop left steps = drop_here steps (left - 1) s e ∙ ap (λ (z : ℕ). s ∷ drop z steps) up in
    let spot : s.spot ≡ spot_before p steps left = before_is p steps left s lt e in
    let behind : drop left talks ≡ talks_along source s.spot (drop left steps) = f.behind ∙ ap (λ (z : Spot). talks_along source z (drop left steps)) (sym spot) in
    let next_is : next ≡ first_some (talks_along source s.spot (drop left steps)) = f.next_is ∙ ap first_some behind in
    record {
      size = set_length talks (left - 1) talk ∙ f.size;
      within = (let a = f.within in omega arith);
      behind = here ∙ ap₂ (λ (y : Option TalkArm) (z : List (Option TalkArm)). y ∷ z) (t ∙ ap (λ (z : Option TalkArm). step_talk source (spot_before p steps (left - 1)) s z) next_is) behind
          ∙ ap (λ (z : List WalkStep_data). talks_along source (spot_before p steps (left - 1)) z) (sym there);
      next_is = ap (λ (z : Option TalkArm). or_later talk z) f.next_is ∙ ap first_some (sym here);
    }
  where
    set_length : (xs : List (Option TalkArm)) (i : ℕ) (y : Option TalkArm) → length (set xs i y) ≡ length xs
    set_length xs i y = length-set xs i y

pub found_all : (source : WalkSource_data) (p : Spot) (steps : List WalkStep_data) (left : ℕ) (talks : List (Option TalkArm)) (next : Option TalkArm) → left ≤ 0
    → AreFoundFrom source p steps left talks next → talks ≡ talks_along source p steps
found_all source p steps left talks next le f = by left le f.behind
  where
    by : (n : ℕ) → n ≤ 0 → drop n talks ≡ talks_along source (spot_before p steps n) (drop n steps) → talks ≡ talks_along source p steps
    by zero l e = e ∙ ap (λ (z : Spot). talks_along source z steps) (sym (before_first p steps zero l))
    by (suc n) l e = let bad : ⊥ = omega arith in absurd bad

-- a line more
pub line_on : (source : WalkSource_data) (p : Spot) (steps : List WalkStep_data) (talks : List (Option TalkArm)) (i : ℕ) (s : WalkStep_data) (t : Option TalkArm) → slice_get steps i ≡ Some s
    → slice_get talks i ≡ Some t
    → lines_text source (spot_before p steps i) (drop i steps) (drop i talks)
    ≡ step_text source (spot_before p steps i) s t ++ lines_text source (spot_before p steps (i + 1)) (drop (i + 1) steps) (drop (i + 1) talks)
line_on source p steps talks i s t e f =
    let one : i + 1 ≡ suc i = omega arith in
    let spot : s.spot ≡ spot_before p steps (i + 1) = sym (before_next p steps i s e) ∙ ap (λ (z : ℕ). spot_before p steps z) (sym one) in
    ap₂ (λ (y : List WalkStep_data) (z : List (Option TalkArm)). lines_text source (spot_before p steps i) y z) (drop_here steps i s e) (drop_here talks i t f)
    ∙ ap (λ (z : Spot). step_text source (spot_before p steps i) s t ++ lines_text source z (drop (i + 1) steps) (drop (i + 1) talks)) spot

-- as many talks as steps
pub along_length : (source : WalkSource_data) (p : Spot) (steps : List WalkStep_data) → length (talks_along source p steps) ≡ length steps
along_length source p [] = refl
along_length source p (s ∷ later) = ap suc (along_length source s.spot later)

-- what is owed after a step more
pub owed_on : (source : WalkSource_data) (p : Spot) (steps : List WalkStep_data) (talks owed : List (Option TalkArm)) (i : ℕ) (s : WalkStep_data) (t : Option TalkArm) → slice_get steps i ≡ Some s
    → slice_get talks i ≡ Some t
    → owed_along source (spot_before p steps i) (drop i steps) (drop i talks) owed
    ≡ owed_along source (spot_before p steps (i + 1)) (drop (i + 1) steps) (drop (i + 1) talks) (owed_after (rule_of source (spot_before p steps i)) t owed)
owed_on source p steps talks owed i s t e f =
    let one : i + 1 ≡ suc i = omega arith in
    let spot : s.spot ≡ spot_before p steps (i + 1) = sym (before_next p steps i s e) ∙ ap (λ (z : ℕ). spot_before p steps z) (sym one) in
    ap₂ (λ (y : List WalkStep_data) (z : List (Option TalkArm)). owed_along source (spot_before p steps i) y z owed) (drop_here steps i s e) (drop_here talks i t f)
    ∙ ap (λ (z : Spot). owed_along source z (drop (i + 1) steps) (drop (i + 1) talks) (owed_after (rule_of source (spot_before p steps i)) t owed)) spot
