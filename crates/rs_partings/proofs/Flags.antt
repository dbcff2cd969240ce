-- Flags of nodes: what they tell, and the numbers of those that stand.
use Rattle.std.proofs.Common.{◌≡◌, ◌↔◌, inl, inr, ℕ, zero, suc, ◌+◌, ◌<◌, Bool, true, false, not, ◌&&◌, ◌==◌, List, [], ◌∷◌, length, set, get_or, map, replicate, Some, slice_get, refl, sym, ap}
use Rattle.std.proofs.Common.{◌∙◌, subst, arith}
use Rattle.std.specs.List.{AllPairs}
use Rattle.rs_model.specs.Data.{Protocol_data}
use Rattle.rs_model.specs.declared.graph.Node.{Node}
use Rattle.rs_model.specs.declared.graph.Node.TheVariants.{Talk}
use Rattle.rs_model.specs.declared.graph.Role.{Role}
use Rattle.rs_graph.specs.Lists.{Among}
use Rattle.rs_project.specs.Graph.{Involves}
use Rattle.rs_project.specs.Marks.{IsOn, involves_role}
use Rattle.rs_project.proofs.Flags.{on_within, none_on, set_itself, set_only, all_on}
use Rattle.rs_project.proofs.Meetings.{place_among}
use Rattle.rs_project.proofs.Surveys.{involves_by, or_left, or_right, role_eq}
use Rattle.rs_partings.specs.Flags.{AreFlags, AreBut, flagged, only_flag}

pub flag_to : (count : ℕ) (P : ℕ → Type 0) (flags : List Bool) (n : ℕ) → AreFlags count P flags → IsOn flags n → P n
flag_to count P flags n are on = let w = on_within flags n on in let s = are.size in (are.each n (omega (arith, w, s))).0 on

pub to_flag : (count : ℕ) (P : ℕ → Type 0) (flags : List Bool) (n : ℕ) → AreFlags count P flags → n < count → P n → IsOn flags n
to_flag count P flags n are lt p = (are.each n lt).1 p

pub flag_within : (count : ℕ) (P : ℕ → Type 0) (flags : List Bool) (n : ℕ) → AreFlags count P flags → IsOn flags n → n < count
flag_within count P flags n are on = let w = on_within flags n on in let s = are.size in omega (arith, w, s)

pub flags_as : (count : ℕ) (P Q : ℕ → Type 0) (flags : List Bool) → ((n : ℕ) → n < count → P n ↔ Q n) → AreFlags count P flags → AreFlags count Q flags
flags_as count P Q flags same are = record {
  size = are.size;
  each = λ n lt. ((λ on. (same n lt).0 ((are.each n lt).0 on)), (λ q. (are.each n lt).1 ((same n lt).1 q)));
}

-- ---- nodes that involve the role

on_map : (f : Node → Bool) (nodes : List Node) (n : ℕ) → IsOn (map f nodes) n → (node : Node) × (slice_get nodes n ≡ Some node) × (f node ≡ true)
on_map f [] n h = absurd (cc (h))
on_map f (x ∷ xs) zero h = (x, refl, h)
on_map f (x ∷ xs) (suc n) h = on_map f xs n h

map_on : (f : Node → Bool) (nodes : List Node) (n : ℕ) (node : Node) → slice_get nodes n ≡ Some node → f node ≡ true → IsOn (map f nodes) n
map_on f [] n node is h = absurd (cc (is))
map_on f (x ∷ xs) zero node is h = (let e : x ≡ node = cc (is) in ap f e ∙ h)
map_on f (x ∷ xs) (suc n) node is h = map_on f xs n node is h

map_length : (f : Node → Bool) (nodes : List Node) → length (map f nodes) ≡ length nodes
map_length f [] = refl
map_length f (x ∷ xs) = ap suc (map_length f xs)

pub involved_are : (pr : Protocol_data) (role : Role) (flags : List Bool) → flags ≡ map (λ n. involves_role role n) pr.nodes → AreFlags (length pr.nodes) (λ n. Involves pr role n) flags
involved_are pr role flags e = subst (λ (z : List Bool). AreFlags (length pr.nodes) (λ n. Involves pr role n) z) (sym e) (record {
  size = map_length (λ n. involves_role role n) pr.nodes;
  each = λ n lt. (
    (λ h. (let r = on_map (λ k. involves_role role k) pr.nodes n h in involves_by pr role n r.0 r.1 r.2)),
    (λ i. map_on (λ k. involves_role role k) pr.nodes n (Talk i.sender i.receiver i.arms) i.talks (elim i.part [
      | inl q ↦ or_left (i.sender.0 == role.0) (i.receiver.0 == role.0) (role_eq i.sender role q)
      | inr q ↦ or_right (i.sender.0 == role.0) (i.receiver.0 == role.0) (role_eq i.receiver role q)
    ])),
  );
})

-- ---- the flags of one list without those of another

and_both : (a b : Bool) → (a && not b) ≡ true → (a ≡ true) × (b ≡ true → ⊥)
and_both true false h = (refl, λ e. cc (e))
and_both true true h = absurd (cc (h))
and_both false b h = absurd (cc (h))

both_and : (a b : Bool) → a ≡ true → (b ≡ true → ⊥) → (a && not b) ≡ true
both_and true false h k = refl
both_and true true h k = absurd (k refl)
both_and false b h k = absurd (cc (h))

pub but_flags : (count : ℕ) (P Q : ℕ → Type 0) (ours theirs flags : List Bool) → AreFlags count P ours → AreFlags count Q theirs → AreBut ours theirs flags
    → AreFlags count (λ n. P n × (Q n → ⊥)) flags
but_flags count P Q ours theirs flags a b but = record {
  size = but.size ∙ a.size;
  each = λ n lt.
      let s = a.size in
      let e = but.each n (omega (arith, lt, s)) in (
        (λ on. (let r = and_both (get_or ours n false) (get_or theirs n false) (sym e ∙ on) in ((a.each n lt).0 r.0, λ q. r.1 ((b.each n lt).1 q)))),
        (λ p. e ∙ both_and (get_or ours n false) (get_or theirs n false) ((a.each n lt).1 p.0) (λ on. p.1 ((b.each n lt).0 on))),
      );
}

-- ---- all flags, and one alone

replicate_length : (count : ℕ) (b : Bool) → length (replicate count b) ≡ count
replicate_length zero b = refl
replicate_length (suc count) b = ap suc (replicate_length count b)

pub every_flag : (count : ℕ) (flags : List Bool) → flags ≡ replicate count true → AreFlags count (λ n. Unit {0}) flags
every_flag count flags e = subst (λ (z : List Bool). AreFlags count (λ n. Unit {0}) z) (sym e) (record {
  size = replicate_length count true;
  each = λ n lt. ((λ on. tt), (λ t. all_on count n lt));
})

set_length : (flags : List Bool) (n : ℕ) (b : Bool) → length (set flags n b) ≡ length flags
set_length [] n b = refl
set_length (x ∷ xs) zero b = refl
set_length (x ∷ xs) (suc n) b = ap suc (set_length xs n b)

pub only_flags : (count n : ℕ) (flags : List Bool) → flags ≡ only_flag count n → AreFlags count (λ m. m ≡ n) flags
only_flags count n flags e = subst (λ (z : List Bool). AreFlags count (λ m. m ≡ n) z) (sym e) (record {
  size = set_length (replicate count false) n true ∙ replicate_length count false;
  each = λ m lt. (
    (λ on. elim (set_only (replicate count false) n m on) [ inl k ↦ absurd (none_on count m k) | inr q ↦ sym q ]),
    (λ q. (let l = replicate_length count false in
        let P : ℕ → Type 0 = λ z. IsOn (set (replicate count false) n true) z in subst P (sym q) (set_itself (replicate count false) n (omega (arith, l, lt, q))))),
  );
})

-- ---- the numbers of the flags that stand

pub flagged_at : (k : ℕ) (flags : List Bool) (n : ℕ) → Among (flagged k flags) n → (i : ℕ) × (n ≡ k + i) × IsOn flags i
flagged_at k [] n h = absurd h
flagged_at k (true ∷ bs) n (inl e) = (zero, omega (arith, e), refl)
flagged_at k (true ∷ bs) n (inr h) = let r = flagged_at (k + 1) bs n h in (suc r.0, (let e = r.1 in omega (arith, e)), r.2)
flagged_at k (false ∷ bs) n h = let r = flagged_at (k + 1) bs n h in (suc r.0, (let e = r.1 in omega (arith, e)), r.2)

pub at_flagged : (k : ℕ) (flags : List Bool) (i : ℕ) → IsOn flags i → Among (flagged k flags) (k + i)
at_flagged k [] i h = absurd (cc (h))
at_flagged k (true ∷ bs) zero h = inl (omega arith)
at_flagged k (false ∷ bs) zero h = absurd (cc (h))
at_flagged k (true ∷ bs) (suc i) h =
    let e : (k + 1) + i ≡ k + suc i = omega arith in
    inr (subst (λ (z : ℕ). Among (flagged (k + 1) bs) z) e (at_flagged (k + 1) bs i h))
at_flagged k (false ∷ bs) (suc i) h =
    let e : (k + 1) + i ≡ k + suc i = omega arith in
    subst (λ (z : ℕ). Among (flagged (k + 1) bs) z) e (at_flagged (k + 1) bs i h)

flagged_rise : (k : ℕ) (flags : List Bool) (i j d : ℕ) → i < j → j < length (flagged k flags) → get_or (flagged k flags) i d < get_or (flagged k flags) j d
flagged_rise k [] i j d lt h = absurd (omega (arith, h))
flagged_rise k (false ∷ bs) i j d lt h = flagged_rise (k + 1) bs i j d lt h
flagged_rise k (true ∷ bs) zero zero d lt h = absurd (omega (arith, lt))
flagged_rise k (true ∷ bs) zero (suc j) d lt h =
    let r = flagged_at (k + 1) bs (get_or (flagged (k + 1) bs) j d) (place_among (flagged (k + 1) bs) j d (omega (arith, h))) in
    let e = r.1 in
    omega (arith, e)
flagged_rise k (true ∷ bs) (suc i) zero d lt h = absurd (omega (arith, lt))
flagged_rise k (true ∷ bs) (suc i) (suc j) d lt h = flagged_rise (k + 1) bs i j d (omega (arith, lt)) (omega (arith, h))

pub flagged_rising : (k : ℕ) (flags : List Bool) → AllPairs (λ (n m : ℕ). n < m) (flagged k flags)
flagged_rising k flags = λ i j d lt h. flagged_rise k flags i j d lt h
