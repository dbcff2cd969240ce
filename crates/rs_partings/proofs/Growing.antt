-- Marks that spread along rows.
use Rattle.std.proofs.Common.{◌≡◌, inl, inr, ℕ, suc, ◌+◌, ◌<◌, ◌≤◌, Bool, true, false, List, [], ◌∷◌, ◌++◌, length, drop, set, get_or, refl, sym, subst, arith}
use Rattle.std.proofs.lemmas.List.{drop-append-le, drop_more, length-append}
use Rattle.rs_graph.specs.Lists.{Among}
use Rattle.rs_graph.specs.Ranks.{Edge}
use Rattle.rs_graph.specs.Walks.{Walk, Here, Further}
use Rattle.rs_project.specs.Marks.{IsOn, count_of_lowered}
use Rattle.rs_project.proofs.Flags.{on_within, set_itself, set_on, set_only, set_unmarked}
use Rattle.rs_project.proofs.Lists.{among_left, among_right, among_split}
use Rattle.rs_project.proofs.Walks.{drop_past}
use Rattle.rs_partings.specs.Flags.{AreFlags, flagged}
use Rattle.rs_partings.specs.Rows.{Growing, GrownSoFar, IsReachedAlong}
use Rattle.rs_partings.proofs.Flags.{at_flagged, flagged_at}
use Rattle.rs_partings.proofs.Turning.{walk_snoc}

-- the starts are marked, and all are still to be gone on from
begun : (rows : List (List ℕ)) (starts : List Bool) → Growing rows starts starts (flagged 0 starts) []
begun rows starts = record {
  sound = λ n h. record { start = n; begins = h; steps = 0; walk = Here n };
  right = λ n h. absurd h;
  listed = λ n h. (let r = flagged_at 0 starts n h in let q : r.0 ≡ n = (let e = r.1 in omega (arith, e)) in subst (λ (z : ℕ). IsOn starts z) q r.2);
  begun = λ n h. h;
  closed = λ n next h e. inr (inl (subst (λ (z : ℕ). Among (flagged 0 starts) z) (let q : 0 + n ≡ n = omega arith in q) (at_flagged 0 starts n h)));
}

-- the node is marked already
marked_before : (rows : List (List ℕ)) (starts marks : List Bool) (todo : List ℕ) (x : ℕ) (soon : List ℕ) → IsOn marks x → Growing rows starts marks todo (x ∷ soon) → Growing rows starts marks todo soon
marked_before rows starts marks todo x soon on g = record {
  sound = g.sound;
  right = λ n h. g.right n (inr h);
  listed = g.listed;
  begun = g.begun;
  closed = λ n next h e. elim (g.closed n next h e) [
    | inl k ↦ inl k
    | inr (inl k) ↦ inr (inl k)
    | inr (inr (inl q)) ↦ inl (subst (λ (z : ℕ). IsOn marks z) q on)
    | inr (inr (inr k)) ↦ inr (inr k)
  ];
}

-- the node is marked now, and listed
marked_now : (rows : List (List ℕ)) (starts marks : List Bool) (todo : List ℕ) (x : ℕ) (soon : List ℕ) → x < length marks
    → Growing rows starts marks todo (x ∷ soon) → Growing rows starts (set marks x true) (todo ++ (x ∷ [])) soon
marked_now rows starts marks todo x soon within g = record {
  sound = λ n h. elim (set_only marks x n h) [ inl k ↦ g.sound n k | inr q ↦ g.right n (inl q) ];
  right = λ n h. g.right n (inr h);
  listed = λ n h. elim (among_split todo (x ∷ []) n h) [
    | inl k ↦ set_on marks x n (g.listed n k)
    | inr (inl q) ↦ subst (λ (z : ℕ). IsOn (set marks x true) z) q (set_itself marks x within)
    | inr (inr k) ↦ absurd k
  ];
  begun = λ n h. set_on marks x n (g.begun n h);
  closed = λ n next h e. elim (set_only marks x n h) [
    | inl k ↦ elim (g.closed n next k e) [
      | inl m ↦ inl (set_on marks x next m)
      | inr (inl m) ↦ inr (inl (among_left todo (x ∷ []) n m))
      | inr (inr (inl q)) ↦ inl (subst (λ (z : ℕ). IsOn (set marks x true) z) q (set_itself marks x within))
      | inr (inr (inr m)) ↦ inr (inr m)
    ]
    | inr q ↦ inr (inl (among_right todo (x ∷ []) n (inl q)))
  ];
}

-- the first of those listed is gone on from
gone_on : (rows : List (List ℕ)) (starts marks : List Bool) (todo : List ℕ) (x : ℕ) → Growing rows starts marks (x ∷ todo) [] → Growing rows starts marks todo (get_or rows x [])
gone_on rows starts marks todo x g = record {
  sound = g.sound;
  right = λ n h. (let r = g.sound x (g.listed x (inl refl)) in
      record { start = r.start; begins = r.begins; steps = suc r.steps; walk = walk_snoc (Edge rows) r.start r.steps x n r.walk h });
  listed = λ n h. g.listed n (inr h);
  begun = g.begun;
  closed = λ n next h e. elim (g.closed n next h e) [
    | inl k ↦ inl k
    | inr (inl (inl q)) ↦ inr (inr (subst (λ (z : ℕ). Edge rows z next) (sym q) e))
    | inr (inl (inr k)) ↦ inr (inl k)
    | inr (inr k) ↦ absurd k
  ];
}

along : (rows : List (List ℕ)) (starts marks : List Bool) → Growing rows starts marks [] [] → (i k j : ℕ) → Walk (Edge rows) i k j → IsOn marks i → IsOn marks j
along rows starts marks g i _ _ (Here _) on = on
along rows starts marks g i _ j (Further _ h _ n e w) on = elim (g.closed i h on e) [
  | inl k ↦ along rows starts marks g h n j w k
  | inr (inl k) ↦ absurd k
  | inr (inr k) ↦ absurd k
]

-- ---- the same, along the list of the marked nodes

pub grown_begun : (rows : List (List ℕ)) (starts marks : List Bool) (numbers : List ℕ) → marks ≡ starts → numbers ≡ flagged 0 starts → GrownSoFar rows starts marks numbers 0 []
grown_begun rows starts marks numbers em en = record {
  within = omega arith;
  growing = subst (λ (z : List Bool). Growing rows starts z numbers []) (sym em) (subst (λ (z : List ℕ). Growing rows starts starts z []) (sym en) (begun rows starts));
}

pub grown_before : (rows : List (List ℕ)) (starts marks : List Bool) (numbers : List ℕ) (done x : ℕ) (soon : List ℕ) → IsOn marks x → GrownSoFar rows starts marks numbers done (x ∷ soon)
    → GrownSoFar rows starts marks numbers done soon
grown_before rows starts marks numbers done x soon on g = record { within = g.within; growing = marked_before rows starts marks (drop done numbers) x soon on g.growing }

pub grown_now : (rows : List (List ℕ)) (starts marks : List Bool) (numbers : List ℕ) (done x : ℕ) (soon : List ℕ) → x < length marks → GrownSoFar rows starts marks numbers done (x ∷ soon)
    → GrownSoFar rows starts (set marks x true) (numbers ++ (x ∷ [])) done soon
grown_now rows starts marks numbers done x soon lt g = record {
  within = (let l = length-append numbers (x ∷ []) in let k = g.within in omega arith);
  growing = subst (λ (z : List ℕ). Growing rows starts (set marks x true) z soon) (sym (drop-append-le done numbers (x ∷ []) g.within))
      (marked_now rows starts marks (drop done numbers) x soon lt g.growing);
}

pub mark_owed : (marks : List Bool) (numbers : List ℕ) (x : ℕ) → x < length marks → get_or marks x false ≡ false
    → count_of_lowered (set marks x true) + length (numbers ++ (x ∷ [])) ≡ count_of_lowered marks + length numbers
mark_owed marks numbers x lt off =
    let u = set_unmarked marks x lt off in
    let l = length-append numbers (x ∷ []) in
    omega arith

growing_at : (rows : List (List ℕ)) (starts marks : List Bool) (numbers : List ℕ) (done x : ℕ) → done < length numbers → x ≡ get_or numbers done 0 → GrownSoFar rows starts marks numbers done []
    → Growing rows starts marks (x ∷ drop (done + 1) numbers) []
growing_at rows starts marks numbers done x lt e g =
    subst (λ (z : ℕ). Growing rows starts marks (z ∷ drop (done + 1) numbers) []) (sym e)
    (subst (λ (z : List ℕ). Growing rows starts marks z []) (drop_more numbers done 0 lt) g.growing)

pub grown_within : (rows : List (List ℕ)) (starts marks : List Bool) (numbers : List ℕ) (done x : ℕ) → done < length numbers → x ≡ get_or numbers done 0 → GrownSoFar rows starts marks numbers done []
    → x < length marks
grown_within rows starts marks numbers done x lt e g = on_within marks x ((growing_at rows starts marks numbers done x lt e g).listed x (inl refl))

pub grown_on : (rows : List (List ℕ)) (starts marks : List Bool) (numbers : List ℕ) (done x : ℕ) → done < length numbers → x ≡ get_or numbers done 0 → GrownSoFar rows starts marks numbers done []
    → GrownSoFar rows starts marks numbers (done + 1) (get_or rows x [])
grown_on rows starts marks numbers done x lt e g = record {
  within = omega (arith, lt);
  growing = gone_on rows starts marks (drop (done + 1) numbers) x (growing_at rows starts marks numbers done x lt e g);
}

pub grown_whole : (rows : List (List ℕ)) (starts marks : List Bool) (numbers : List ℕ) (done : ℕ) → length numbers ≤ done → length marks ≡ length rows → GrownSoFar rows starts marks numbers done []
    → AreFlags (length rows) (λ n. IsReachedAlong rows starts n) marks
grown_whole rows starts marks numbers done le size g =
    let w : Growing rows starts marks [] [] = subst (λ (z : List ℕ). Growing rows starts marks z []) (drop_past numbers done le) g.growing in
    record { size = size; each = λ n lt. ((λ on. w.sound n on), (λ r. along rows starts marks w r.start r.steps n r.walk (w.begun r.start r.begins))) }
