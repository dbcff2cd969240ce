-- What is first met, by marks.
use Rattle.std.proofs.Common.{◌≡◌, ◌⊎◌, inl, inr, ℕ, zero, suc, ◌+◌, ◌<◌, Bool, true, false, List, [], ◌∷◌, ◌++◌, length, get_or, refl, sym, subst, arith}
use Rattle.std.specs.List.{AllPairs}
use Rattle.std.proofs.lemmas.Bool.{cases_lt}
use Rattle.std.proofs.lemmas.List.Quantifiers.{all_pairs_push}
use Rattle.rs_model.specs.Data.{Protocol_data}
use Rattle.rs_model.specs.declared.graph.Role.{Role}
use Rattle.rs_project.specs.Graph.{PathStep, IsPath, Involves, PassesBy, MeetsFirst, MeetsTheEnd}
use Rattle.rs_graph.specs.Lists.{Among}
use Rattle.rs_project.specs.Marks.{IsOn, IsSpread, IsSurvey, Survey_data, StartMeets, StartEnds}
use Rattle.rs_project.specs.Refusals.{IsFront}
use Rattle.rs_project.proofs.Flags.{on_within, on_decide}
use Rattle.rs_project.proofs.Lists.{contained, contains, among_left, among_right, among_split}
use Rattle.rs_project.proofs.Cycles.{passing_steps, flagged_steps}

-- the numbers are those of the flags that stand in both lists among the first n, in order
pub record AreCommon (one other : List Bool) (count : ℕ) (numbers : List ℕ) : Type 0 where
  pub rising : AllPairs (λ (n m : ℕ). n < m) numbers
  pub below : (n : ℕ) → Among numbers n → n < count
  pub in_one : (n : ℕ) → Among numbers n → IsOn one n
  pub in_other : (n : ℕ) → Among numbers n → IsOn other n
  pub whole : (n : ℕ) → n < count → IsOn one n → IsOn other n → Among numbers n

pub none_common : (one other : List Bool) → AreCommon one other 0 []
none_common one other = record {
  rising = λ i j d lt h. absurd (omega (arith, h));
  below = λ n h. absurd h;
  in_one = λ n h. absurd h;
  in_other = λ n h. absurd h;
  whole = λ n h. absurd (omega (arith, h));
}

pub place_among : (xs : List ℕ) (k d : ℕ) → k < length xs → Among xs (get_or xs k d)
place_among [] k d h = absurd (omega (arith, h))
place_among (x ∷ xs) zero d h = inl refl
place_among (x ∷ xs) (suc k) d h = inr (place_among xs k d (omega arith))

pub common_more : (one other : List Bool) (i : ℕ) (numbers : List ℕ) → IsOn one i → IsOn other i → AreCommon one other i numbers → AreCommon one other (i + 1) (numbers ++ (i ∷ []))
common_more one other i numbers a b c = record {
  rising = all_pairs_push (λ n m. n < m) numbers i c.rising (λ k d h. c.below (get_or numbers k d) (place_among numbers k d h));
  below = λ n h. elim (among_split numbers (i ∷ []) n h) [
    | inl k ↦ (let w = c.below n k in omega (arith, w))
    | inr (inl e) ↦ omega (arith, e)
    | inr (inr k) ↦ absurd k
  ];
  in_one = λ n h. elim (among_split numbers (i ∷ []) n h) [
    | inl k ↦ c.in_one n k
    | inr (inl e) ↦ (let P : ℕ → Type 0 = λ z. IsOn one z in subst P e a)
    | inr (inr k) ↦ absurd k
  ];
  in_other = λ n h. elim (among_split numbers (i ∷ []) n h) [
    | inl k ↦ c.in_other n k
    | inr (inl e) ↦ (let P : ℕ → Type 0 = λ z. IsOn other z in subst P e b)
    | inr (inr k) ↦ absurd k
  ];
  whole = λ n h oa ob. elim (cases_lt n i) [
    | inl k ↦ among_left numbers (i ∷ []) n (c.whole n k oa ob)
    | inr k ↦ among_right numbers (i ∷ []) n (inl (omega (arith, k, h)))
  ];
}

pub common_less : (one other : List Bool) (i : ℕ) (numbers : List ℕ) → (IsOn one i → IsOn other i → ⊥) → AreCommon one other i numbers → AreCommon one other (i + 1) numbers
common_less one other i numbers none c = record {
  rising = c.rising;
  below = λ n h. (let w = c.below n h in omega (arith, w));
  in_one = c.in_one;
  in_other = c.in_other;
  whole = λ n h oa ob. elim (cases_lt n i) [
    | inl k ↦ c.whole n k oa ob
    | inr k ↦ (let e : n ≡ i = omega (arith, k, h) in
        let P : ℕ → Type 0 = λ z. IsOn one z in let Q : ℕ → Type 0 = λ z. IsOn other z in absurd (none (subst P e oa) (subst Q e ob)))
  ];
}

pub is_front : (pr : Protocol_data) (role : Role) (sv : Survey_data) (starts : List ℕ) (marks : List Bool) (talks : List ℕ) (ends : Bool) → IsSurvey pr role sv
    → IsSpread pr sv.passing starts marks → AreCommon marks sv.involved (length marks) talks
    → (ends ≡ true → (n : ℕ) × IsOn marks n × (IsOn sv.awaited n → ⊥))
    → (ends ≡ false → (n : ℕ) → n < length marks → IsOn marks n → IsOn sv.awaited n)
    → IsFront (record { talks = talks; ends = ends }) (StartMeets pr role starts) (StartEnds pr role starts)
is_front pr role sv starts marks talks ends is sp common some none = record {
  rising = common.rising;
  talks = λ t. (
    (λ h. (let a = contained talks t h in
        let w = sp.sound t (common.in_one t a) in
        record {
          start = w.start;
          among = w.among;
          meets = record {
            steps = w.steps;
            path = w.path;
            earlier = passing_steps pr role sv is w.steps w.earlier;
            involved = (is.involved t).0 (common.in_other t a);
          };
        })),
    (λ m. (let on = sp.whole t record { start = m.start; among = m.among; steps = m.meets.steps; path = m.meets.path; earlier = flagged_steps pr role sv is m.meets.steps m.meets.earlier } in
        contains talks t (common.whole t (on_within marks t on) on ((is.involved t).1 m.meets.involved)))),
  );
  ends = (
    (λ e. (let r = some e in
        let w = sp.sound r.0 r.1 in
        record {
          start = w.start;
          among = w.among;
          ends = record { steps = w.steps; last = r.0; path = w.path; earlier = passing_steps pr role sv is w.steps w.earlier; idle = is.idle r.0 r.2 };
        })),
    (λ m. go ends refl m),
  );
}
  where
    go : (b : Bool) → ends ≡ b → StartEnds pr role starts → ends ≡ true
    go true e m = e
    go false e m =
        let on = sp.whole m.ends.last record { start = m.start; among = m.among; steps = m.ends.steps; path = m.ends.path; earlier = flagged_steps pr role sv is m.ends.steps m.ends.earlier } in
        let a = is.awaited m.ends.last (none e m.ends.last (on_within marks m.ends.last on) on) in
        absurd (m.ends.idle a.talk a.reached a.involved)

-- something is met from each node
meets_by : (pr : Protocol_data) (role : Role) (sv : Survey_data) → IsSurvey pr role sv → (ss : List PathStep) (n talk : ℕ) → IsPath pr n ss talk → Involves pr role talk
    → (t : ℕ) × MeetsFirst pr role n t
meets_by pr role sv is [] n talk path i = (talk, record { steps = []; path = path; earlier = tt; involved = i })
meets_by pr role sv is (s ∷ ss) n talk path i = elim (on_decide sv.involved n) [
  | inl o ↦ (n, record { steps = []; path = refl; earlier = tt; involved = (is.involved n).0 o })
  | inr none ↦ (let r = meets_by pr role sv is ss path.0 talk path.3 i in
      let pass : PassesBy pr role n = record { uninvolved = λ k. none ((is.involved n).1 k); awaited = λ idle. idle talk (s ∷ ss, path) i } in
      let P : ℕ → Type 0 = λ z. PassesBy pr role z in
      (r.0, record { steps = s ∷ r.1.steps; path = (path.0, path.1, path.2, r.1.path); earlier = (subst P (sym path.1) pass, r.1.earlier); involved = r.1.involved }))
]

pub meets_some : (pr : Protocol_data) (role : Role) (sv : Survey_data) → IsSurvey pr role sv → (n : ℕ) → ((t : ℕ) × MeetsFirst pr role n t) ⊎ MeetsTheEnd pr role n
meets_some pr role sv is n = elim (on_decide sv.awaited n) [
  | inl o ↦ (let a = is.awaited n o in inl (meets_by pr role sv is a.reached.0 n a.talk a.reached.1 a.involved))
  | inr none ↦ inr record { steps = []; last = n; path = refl; earlier = tt; idle = is.idle n none }
]
