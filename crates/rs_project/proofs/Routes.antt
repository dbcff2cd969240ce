-- What a role meets from some nodes, along talks with one arm from each.
use Rattle.std.proofs.Common.{◌≡◌, ◌↔◌, inl, inr, ℕ, zero, suc, ◌+◌, ◌<◌, false, List, [], ◌∷◌, ◌++◌, take, Some, slice_get, refl, sym, ap, subst, arith}
use Rattle.std.specs.List.{AllPairs, Contains}
use Rattle.rs_model.specs.Data.{Protocol_data}
use Rattle.rs_model.specs.declared.graph.Role.{Role}
use Rattle.rs_graph.specs.Lists.{Among}
use Rattle.rs_project.specs.Marks.{MeetsOnly}
use Rattle.rs_project.specs.Working.{IsFrontFrom}
use Rattle.rs_project.proofs.Lists.{among_split, among_left, among_right, contained, contains}

-- from each start the role meets one talk alone, and these are the talks
pub record AreMet (pr : Protocol_data) (role : Role) (starts talks : List ℕ) : Type 0 where
  pub one : (s : ℕ) → Among starts s → (t : ℕ) × Among talks t × MeetsOnly pr role s t
  pub from : (t : ℕ) → Among talks t → (s : ℕ) × Among starts s × MeetsOnly pr role s t

pub none_met : (pr : Protocol_data) (role : Role) → AreMet pr role [] []
none_met pr role = record { one = λ s m. absurd m; from = λ t m. absurd m }

taken_next : (xs : List ℕ) (i x : ℕ) → slice_get xs i ≡ Some x → take (suc i) xs ≡ take i xs ++ (x ∷ [])
taken_next [] i x h = absurd (cc (h))
taken_next (y ∷ xs) zero x h = (let e : y ≡ x = cc (h) in ap (λ z. z ∷ []) e)
taken_next (y ∷ xs) (suc i) x h = ap (λ z. y ∷ z) (taken_next xs i x h)

more_met : (pr : Protocol_data) (role : Role) (starts talks : List ℕ) (s t : ℕ) → MeetsOnly pr role s t → AreMet pr role starts talks → AreMet pr role (starts ++ (s ∷ [])) (talks ++ (t ∷ []))
more_met pr role starts talks s t only a = record {
  one = λ x m. elim (among_split starts (s ∷ []) x m) [
    | inl old ↦ (let r = a.one x old in (r.0, among_left talks (t ∷ []) r.0 r.1, r.2))
    | inr new ↦ elim new [
      | inl e ↦ (let P : ℕ → Type 0 = λ z. MeetsOnly pr role z t in (t, among_right talks (t ∷ []) t (inl refl), subst P e only))
      | inr bad ↦ absurd bad
    ]
  ];
  from = λ x m. elim (among_split talks (t ∷ []) x m) [
    | inl old ↦ (let r = a.from x old in (r.0, among_left starts (s ∷ []) r.0 r.1, r.2))
    | inr new ↦ elim new [
      | inl e ↦ (let P : ℕ → Type 0 = λ z. MeetsOnly pr role s z in (s, among_right starts (s ∷ []) s (inl refl), subst P e only))
      | inr bad ↦ absurd bad
    ]
  ];
}

pub met_more : (pr : Protocol_data) (role : Role) (starts : List ℕ) (i s : ℕ) (talks more : List ℕ) (t : ℕ) → slice_get starts i ≡ Some s → more ≡ talks ++ (t ∷ []) → MeetsOnly pr role s t
    → AreMet pr role (take i starts) talks
    → AreMet pr role (take (i + 1) starts) more
met_more pr role starts i s talks more t at e only a =
    let j : suc i ≡ i + 1 = omega arith in
    let P : ℕ → Type 0 = λ z. AreMet pr role (take z starts) more in
    let Q : List ℕ → Type 0 = λ z. AreMet pr role z more in
    let R : List ℕ → Type 0 = λ z. AreMet pr role (take i starts ++ (s ∷ [])) z in
    subst P j (subst Q (sym (taken_next starts i s at)) (subst R (sym e) (more_met pr role (take i starts) talks s t only a)))

pub met_front : (pr : Protocol_data) (role : Role) (starts talks those : List ℕ) → AllPairs (λ (n m : ℕ). n < m) those → ((n : ℕ) → Contains those n ↔ Contains talks n) → AreMet pr role starts talks
    → IsFrontFrom pr role starts record { talks = those; ends = false }
met_front pr role starts talks those rising same a = record {
  rising = rising;
  talks = λ t. (
    (λ h. (let r = a.from t (contained talks t ((same t).0 h)) in record { start = r.0; among = r.1; meets = r.2.met })),
    (λ m. (let r = a.one m.start m.among in
        let e : r.0 ≡ t = r.2.only t m.meets in
        let P : ℕ → Type 0 = λ z. Contains those z in
        subst P e ((same r.0).1 (contains talks r.0 r.1)))),
  );
  ends = (
    (λ e. absurd (cc (e))),
    (λ m. (let r = a.one m.start m.among in absurd (r.2.never m.ends))),
  );
}
