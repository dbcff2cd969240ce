-- Marks that are kept in a list, and go on spreading from it.
use Rattle.std.proofs.Common.{◌≡◌, ◌↔◌, inl, inr, ℕ, zero, suc, ◌+◌, ◌<◌, ◌≤◌, Bool, true, false, not, if◌then◌else◌, List, [], ◌∷◌, ◌++◌, All, length, drop, take, set, get_or, replicate, Some}
use Rattle.std.proofs.Common.{slice_get, refl, sym, ◌∙◌, subst, arith}
use Rattle.std.specs.List.{AllPairs, Contains, filter, list_any}
use Rattle.std.proofs.lemmas.List.{drop-append-le, drop_more, length-append}
use Rattle.rs_model.specs.Data.{Protocol_data}
use Rattle.rs_model.specs.declared.graph.Node.{Node}
use Rattle.rs_model.specs.declared.graph.Role.{Role}
use Rattle.rs_graph.specs.Lists.{Among}
use Rattle.rs_project.specs.Marks.{AreListed, IsOn, IsSpread, IsSurvey, Marks_data, Spreading, StartEnds, StartMeets, Survey_data, Walking, flags_without, nexts_of_node, count_of_lowered}
use Rattle.rs_project.specs.Marks.{with_mark}
use Rattle.rs_project.specs.Refusals.{IsFront}
use Rattle.rs_project.proofs.Agreeing.{or_none_left, or_none_right}
use Rattle.rs_project.proofs.Cycles.{all_by}
use Rattle.rs_project.proofs.Flags.{none_on, on_within, set_itself, set_on, set_only, set_unmarked}
use Rattle.rs_project.proofs.Lists.{among_left, among_right, among_split, contained, contains}
use Rattle.rs_project.proofs.Meetings.{is_front}
use Rattle.rs_project.proofs.Spread.{begun, first_within, gone_on, marked_before, marked_now, spread_whole, stopped}
use Rattle.rs_project.proofs.Surveys.{or_split}

-- no flag stands, and none is listed
pub none_listed : (flags : List Bool) → ((n : ℕ) → IsOn flags n → ⊥) → AreListed flags []
none_listed flags none n = (λ h. absurd (none n h), λ m. absurd m)

pub listed_more : (flags : List Bool) (numbers : List ℕ) (x : ℕ) → x < length flags → AreListed flags numbers → AreListed (set flags x true) (numbers ++ (x ∷ []))
listed_more flags numbers x lt l n = (
  (λ h. elim (set_only flags x n h) [ inl k ↦ among_left numbers (x ∷ []) n ((l n).0 k) | inr e ↦ among_right numbers (x ∷ []) n (inl e) ]),
  (λ m. elim (among_split numbers (x ∷ []) n m) [
    | inl k ↦ set_on flags x n ((l n).1 k)
    | inr (inl e) ↦ (let P : ℕ → Type 0 = λ z. IsOn (set flags x true) z in subst P e (set_itself flags x lt))
    | inr (inr k) ↦ absurd k
  ]),
)

unset_only : (flags : List Bool) (x n : ℕ) → IsOn (set flags x false) n → IsOn flags n × ((x ≡ n) → ⊥)
unset_only [] x n h = absurd (cc (h))
unset_only (b ∷ bs) zero zero h = absurd (cc (h))
unset_only (b ∷ bs) zero (suc n) h = (h, λ e. omega (arith, e))
unset_only (b ∷ bs) (suc x) zero h = (h, λ e. omega (arith, e))
unset_only (b ∷ bs) (suc x) (suc n) h = (let r = unset_only bs x n h in (r.0, λ e. r.1 (omega (arith, e))))

cleared_on : (ns : List ℕ) (flags : List Bool) (n : ℕ) → IsOn (flags_without ns flags) n → IsOn flags n × (Among ns n → ⊥)
cleared_on [] flags n h = (h, λ m. m)
cleared_on (m ∷ ns) flags n h =
    let r = cleared_on ns (set flags m false) n h in
    let u = unset_only flags m n r.0 in
    (u.0, λ k. elim k [ inl e ↦ u.1 e | inr a ↦ r.1 a ])

resized_on : (flags : List Bool) (count more n : ℕ) → IsOn (take count flags ++ replicate more false) n → IsOn flags n
resized_on [] zero more n h = absurd (none_on more n h)
resized_on [] (suc count) more n h = absurd (none_on more n h)
resized_on (b ∷ bs) zero more n h = absurd (none_on more n h)
resized_on (b ∷ bs) (suc count) more zero h = h
resized_on (b ∷ bs) (suc count) more (suc n) h = resized_on bs count more n h

-- no flag is left once those that are listed are taken back
pub none_left : (flags : List Bool) (numbers : List ℕ) → AreListed flags numbers → (n : ℕ) → IsOn (flags_without numbers flags) n → ⊥
none_left flags numbers l n h = let r = cleared_on numbers flags n h in r.1 ((l n).0 r.0)

pub none_resized : (flags fs rs : List Bool) (numbers : List ℕ) (count more : ℕ) → AreListed flags numbers → fs ≡ flags_without numbers flags
    → rs ≡ take count fs ++ replicate more false → (n : ℕ) → IsOn rs n → ⊥
none_resized flags fs rs numbers count more l e r n h =
    let P : List Bool → Type 0 = λ z. IsOn z n in
    none_left flags numbers l n (subst P e (resized_on fs count more n (subst P r h)))

pub drop_past : (xs : List ℕ) (d : ℕ) → length xs ≤ d → drop d xs ≡ []
drop_past [] zero h = refl
drop_past [] (suc d) h = refl
drop_past (y ∷ ys) zero h = absurd (omega (arith, h))
drop_past (y ∷ ys) (suc d) h = drop_past ys d (omega (arith, h))

pub walk_begun : (pr : Protocol_data) (th : List Bool) (starts : List ℕ) (m : Marks_data) → m.numbers ≡ [] → ((n : ℕ) → IsOn m.flags n → ⊥) → Walking pr th starts m 0 starts
walk_begun pr th starts m e none = record {
  within = omega arith;
  going = (let P : List ℕ → Type 0 = λ z. Spreading pr th starts m.flags z starts in subst P (sym e) (begun pr th starts m.flags none));
}

pub walk_before : (pr : Protocol_data) (th : List Bool) (starts : List ℕ) (m : Marks_data) (done x : ℕ) (soon : List ℕ) → IsOn m.flags x → Walking pr th starts m done (x ∷ soon)
    → Walking pr th starts m done soon
walk_before pr th starts m done x soon on w = record { within = w.within; going = marked_before pr th starts m.flags (drop done m.numbers) x soon on w.going }

pub walk_now : (pr : Protocol_data) (th : List Bool) (starts : List ℕ) (m : Marks_data) (done x : ℕ) (soon : List ℕ) → x < length m.flags → Walking pr th starts m done (x ∷ soon)
    → Walking pr th starts (with_mark m x) done soon
walk_now pr th starts m done x soon lt w = record {
  within = (let l = length-append m.numbers (x ∷ []) in let k = w.within in omega arith);
  going = (let P : List ℕ → Type 0 = λ z. Spreading pr th starts (set m.flags x true) z soon in
      subst P (sym (drop-append-le done m.numbers (x ∷ []) w.within)) (marked_now pr th starts m.flags (drop done m.numbers) x soon lt w.going));
}

-- what a mark costs
pub mark_owed : (m : Marks_data) (x : ℕ) → x < length m.flags → get_or m.flags x false ≡ false
    → count_of_lowered (with_mark m x).flags + length (with_mark m x).numbers ≡ count_of_lowered m.flags + length m.numbers
mark_owed m x lt off =
    let u = set_unmarked m.flags x lt off in
    let l = length-append m.numbers (x ∷ []) in
    omega arith

going_at : (pr : Protocol_data) (th : List Bool) (starts : List ℕ) (m : Marks_data) (done x : ℕ) → done < length m.numbers → x ≡ get_or m.numbers done 0 → Walking pr th starts m done []
    → Spreading pr th starts m.flags (x ∷ drop (done + 1) m.numbers) []
going_at pr th starts m done x lt e w =
    let P : List ℕ → Type 0 = λ z. Spreading pr th starts m.flags z [] in
    let Q : ℕ → Type 0 = λ z. Spreading pr th starts m.flags (z ∷ drop (done + 1) m.numbers) [] in
    subst Q (sym e) (subst P (drop_more m.numbers done 0 lt) w.going)

pub walk_within : (pr : Protocol_data) (th : List Bool) (starts : List ℕ) (m : Marks_data) (done x : ℕ) → done < length m.numbers → x ≡ get_or m.numbers done 0 → length m.flags ≡ length pr.nodes
    → Walking pr th starts m done [] → x < length pr.nodes
walk_within pr th starts m done x lt e size w = first_within pr th starts m.flags (drop (done + 1) m.numbers) x size (going_at pr th starts m done x lt e w)

pub walk_on : (pr : Protocol_data) (th : List Bool) (starts : List ℕ) (m : Marks_data) (done x : ℕ) (node : Node) → done < length m.numbers → x ≡ get_or m.numbers done 0
    → slice_get pr.nodes x ≡ Some node → IsOn th x → Walking pr th starts m done [] → Walking pr th starts m (done + 1) (nexts_of_node node)
walk_on pr th starts m done x node lt e is on w = record {
  within = omega (arith, lt);
  going = gone_on pr th starts m.flags (drop (done + 1) m.numbers) x node is on (going_at pr th starts m done x lt e w);
}

pub walk_past : (pr : Protocol_data) (th : List Bool) (starts : List ℕ) (m : Marks_data) (done x : ℕ) → done < length m.numbers → x ≡ get_or m.numbers done 0
    → get_or th x false ≡ false → Walking pr th starts m done [] → Walking pr th starts m (done + 1) []
walk_past pr th starts m done x lt e off w = record {
  within = omega (arith, lt);
  going = stopped pr th starts m.flags (drop (done + 1) m.numbers) x off (going_at pr th starts m done x lt e w);
}

pub walk_done : (pr : Protocol_data) (th : List Bool) (starts : List ℕ) (m : Marks_data) (done : ℕ) → length m.numbers ≤ done → length m.flags ≡ length pr.nodes
    → Walking pr th starts m done [] → IsSpread pr th starts m.flags
walk_done pr th starts m done le size w =
    let P : List ℕ → Type 0 = λ z. Spreading pr th starts m.flags z [] in
    spread_whole pr th starts m.flags size (subst P (drop_past m.numbers done le) w.going)

-- the numbers whose flags stand
filter_among : (p : ℕ → Bool) (xs : List ℕ) (n : ℕ) → Among (filter p xs) n → Among xs n × (p n ≡ true)
filter_among p [] n h = absurd h
filter_among p (x ∷ xs) n h = go (p x) refl (λ m. filter_among p xs n m)
  where
    go : (b : Bool) → p x ≡ b → (Among (filter p xs) n → Among xs n × (p n ≡ true)) → Among (x ∷ xs) n × (p n ≡ true)
    go true e f =
        let P : Bool → Type 0 = λ b. Among (if b then x ∷ filter p xs else filter p xs) n in
        elim (subst P e h) [
          | inl q ↦ (inl q, (let Q : ℕ → Type 0 = λ z. p z ≡ true in subst Q q e))
          | inr m ↦ (let r = f m in (inr r.0, r.1))
        ]
    go false e f =
        let P : Bool → Type 0 = λ b. Among (if b then x ∷ filter p xs else filter p xs) n in
        let r = f (subst P e h) in
        (inr r.0, r.1)

among_filter : (p : ℕ → Bool) (xs : List ℕ) (n : ℕ) → Among xs n → p n ≡ true → Among (filter p xs) n
among_filter p [] n h on = absurd h
among_filter p (x ∷ xs) n h on = go (p x) refl h (λ k. among_filter p xs n k on)
  where
    go : (b : Bool) → p x ≡ b → Among (x ∷ xs) n → (Among xs n → Among (filter p xs) n) → Among (filter p (x ∷ xs)) n
    go true e m f =
        let P : Bool → Type 0 = λ b. Among (if b then x ∷ filter p xs else filter p xs) n in
        subst P (sym e) (elim m [ inl q ↦ inl q | inr k ↦ inr (f k) ])
    go false e m f =
        let P : Bool → Type 0 = λ b. Among (if b then x ∷ filter p xs else filter p xs) n in
        subst P (sym e) (elim m [
          | inl q ↦ (let Q : ℕ → Type 0 = λ z. p z ≡ false in absurd (cc (subst Q q e, on)))
          | inr k ↦ f k
        ])

any_among : (p : ℕ → Bool) (xs : List ℕ) → list_any p xs ≡ true → (n : ℕ) × Among xs n × (p n ≡ true)
any_among p [] h = absurd (cc (h))
any_among p (x ∷ xs) h = elim (or_split (p x) (list_any p xs) h) [
  | inl e ↦ (x, inl refl, e)
  | inr k ↦ (let r = any_among p xs k in (r.0, inr r.1, r.2))
]

none_among : (p : ℕ → Bool) (xs : List ℕ) → list_any p xs ≡ false → (n : ℕ) → Among xs n → p n ≡ false
none_among p [] h n m = absurd m
none_among p (x ∷ xs) h n (inl e) = (let Q : ℕ → Type 0 = λ z. p z ≡ false in subst Q e (or_none_left (p x) (list_any p xs) h))
none_among p (x ∷ xs) h n (inr m) = none_among p xs (or_none_right (p x) (list_any p xs) h) n m

not_on : (b : Bool) → not b ≡ true → b ≡ true → ⊥
not_on true e f = cc (e)
not_on false e f = cc (f)

on_not : (b : Bool) → not b ≡ false → b ≡ true
on_not true e = refl
on_not false e = cc (e)

pub listed_within : (flags : List Bool) (numbers : List ℕ) (count : ℕ) → length flags ≡ count → AreListed flags numbers → All (λ n. n < count) numbers
listed_within flags numbers count size l = all_by (λ n. n < count) numbers (λ n m. (let w = on_within flags n ((l n).1 m) in omega (arith, w, size)))

-- what is first met, by the marked nodes alone
pub front_listed : (pr : Protocol_data) (role : Role) (sv : Survey_data) (starts : List ℕ) (marks : List Bool) (numbers those talks : List ℕ) (ends : Bool) → IsSurvey pr role sv
    → IsSpread pr sv.passing starts marks → AreListed marks numbers → those ≡ filter (λ n. get_or sv.involved n false) numbers → AllPairs (λ (n m : ℕ). n < m) talks
    → ((n : ℕ) → Contains talks n ↔ Contains those n) → ends ≡ list_any (λ n. not (get_or sv.awaited n false)) numbers
    → IsFront (record { talks = talks; ends = ends }) (StartMeets pr role starts) (StartEnds pr role starts)
front_listed pr role sv starts marks numbers those talks ends is sp l e rising same any =
    is_front pr role sv starts marks talks ends is sp record {
      rising = rising;
      below = λ n a. on_within marks n ((l n).1 (told n a).0);
      in_one = λ n a. (l n).1 (told n a).0;
      in_other = λ n a. (told n a).1;
      whole = λ n lt oa ob. (
          let P : List ℕ → Type 0 = λ z. Among z n in
          contained talks n ((same n).1 (contains those n (subst P (sym e) (among_filter (λ k. get_or sv.involved k false) numbers n ((l n).0 oa) ob)))));
    }
    (λ h. (let r = any_among (λ n. not (get_or sv.awaited n false)) numbers (sym any ∙ h) in (r.0, (l r.0).1 r.1, not_on (get_or sv.awaited r.0 false) r.2)))
    (λ h n lt on. on_not (get_or sv.awaited n false) (none_among (λ k. not (get_or sv.awaited k false)) numbers (sym any ∙ h) n ((l n).0 on)))
  where
    told : (n : ℕ) → Among talks n → Among numbers n × IsOn sv.involved n
    told n a =
        let P : List ℕ → Type 0 = λ z. Among z n in
        filter_among (λ k. get_or sv.involved k false) numbers n (subst P e (contained those n ((same n).0 (contains talks n a))))
