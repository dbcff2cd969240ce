-- Chains of places: they begin empty, and grow by the items that are put behind the others.
use Rattle.std.proofs.Common.{◌≡◌, ◌⊎◌, inl, inr, ℕ, suc, ◌<◌, List, [], ◌∷◌, ◌++◌, length, length-append, Some, slice_get, get_or, set, replicate, refl, sym, ap, ◌∙◌, subst, arith}
use Rattle.std.proofs.lemmas.List.{get_or-set_same, get_or-set_other}
use Rattle.std.proofs.lemmas.Bool.Decides.{eqb_tells}
use Rattle.std.proofs.lemmas.Option.{none-some, same_Some}
use Rattle.rs_model.specs.Chains.{AreChained, First, IsChained, Later}
use Rattle.rs_model.proofs.Lists.{either_at, kept_at, new_at, zero_at}

-- a chain stays where links are added
grown : (links : List ℕ) (y k n : ℕ) → IsChained links k n → IsChained (links ++ (y ∷ [])) k n
grown links y _ n (First _) = First n
grown links y _ n (Later m next _ e c) = Later m next n (kept_at links y m next e) (grown links y next n c)

-- what stands in a chain is its first place or stands behind that
pub chained_on : (links : List ℕ) (m next n : ℕ) → IsChained links (suc m) n → slice_get links m ≡ Some next → (n ≡ m) ⊎ IsChained links next n
chained_on links m next n c e = go (suc m) c refl
  where
    go : (k : ℕ) → IsChained links k n → k ≡ suc m → (n ≡ m) ⊎ IsChained links next n
    go _ (First _) q = inl (omega arith)
    go _ (Later l other _ f d) q =
        let p : l ≡ m = omega arith in
        let s : other ≡ next = same_Some other next (sym f ∙ ap (λ (z : ℕ). slice_get links z) p ∙ e) in
        inr (subst (λ (z : ℕ). IsChained links z n) s d)

-- nothing stands in a chain that has ended
pub unchained : (links : List ℕ) (k n : ℕ) → k ≡ 0 → IsChained links k n → ⊥
unchained links _ n q (First _) = let bad : ⊥ = omega arith in bad
unchained links _ n q (Later m next _ e c) = let bad : ⊥ = omega arith in bad

-- no items are chained
pub chained_none : {X : Type 0} (bucket : X → ℕ) (IsSought : X → Type 0) (buckets : ℕ) → AreChained bucket IsSought [] (replicate buckets 0) []
chained_none bucket IsSought buckets = record {
  size = refl;
  within = λ b. (let z = zero_at buckets b in omega arith);
  falls = λ m next e. absurd (none-some next e);
  filed = λ n x e _. absurd (none-some x e);
}

-- one item more, which is the new head of its bucket
pub chained_push : {X : Type 0} (bucket : X → ℕ) (IsSought : X → Type 0) (items : List X) (heads links : List ℕ) (new : X) (b head n : ℕ) → b ≡ bucket new → b < length heads
    → n ≡ suc (length items) → head ≡ get_or heads b 0
    → AreChained bucket IsSought items heads links → AreChained bucket IsSought (items ++ (new ∷ [])) (set heads b n) (links ++ (head ∷ []))
chained_push bucket IsSought items heads links new b head n eb within top eh a =
    let l = length-append items (new ∷ []) in let s = a.size in
    let here : get_or (set heads b n) b 0 ≡ suc (length items) = get_or-set_same heads b n 0 within ∙ top in
    record {
      size = (let k = length-append links (head ∷ []) in omega arith);
      within = λ c. elim (eqb_tells c b) [
        | inl q ↦ (let e : get_or (set heads b n) c 0 ≡ suc (length items) = ap (λ (z : ℕ). get_or (set heads b n) z 0) q.1 ∙ here in omega arith)
        | inr q ↦ (let e = get_or-set_other heads b c n 0 q.1 in let w = a.within c in omega arith)
      ];
      falls = λ m next e. elim (either_at links head m next e) [
        | inl old ↦ a.falls m next old
        | inr last ↦ (let w = a.within b in let q = last.0 in let r = last.1 in omega arith)
      ];
      filed = λ m x e sought. elim (either_at items new m x e) [
        | inl old ↦ (let c = grown links head (get_or heads (bucket x) 0) m (a.filed m x old sought) in elim (eqb_tells (bucket x) b) [
          | inl q ↦ (let h : get_or (set heads b n) (bucket x) 0 ≡ suc (length items) = ap (λ (z : ℕ). get_or (set heads b n) z 0) q.1 ∙ here in
              let f : slice_get (links ++ (head ∷ [])) (length items) ≡ Some head = subst (λ (z : ℕ). slice_get (links ++ (head ∷ [])) z ≡ Some head) s (new_at links head) in
              let d : IsChained (links ++ (head ∷ [])) head m = subst (λ (z : ℕ). IsChained (links ++ (head ∷ [])) z m) (ap (λ (z : ℕ). get_or heads z 0) q.1 ∙ sym eh) c in
              subst (λ (z : ℕ). IsChained (links ++ (head ∷ [])) z m) (sym h) (Later (length items) head m f d))
          | inr q ↦ subst (λ (z : ℕ). IsChained (links ++ (head ∷ [])) z m) (sym (get_or-set_other heads b (bucket x) n 0 q.1)) c
        ])
        | inr last ↦ (let q : b ≡ bucket x = eb ∙ ap bucket last.1 in
            let h : get_or (set heads b n) (bucket x) 0 ≡ suc m = ap (λ (z : ℕ). get_or (set heads b n) z 0) (sym q) ∙ here ∙ ap suc (sym last.0) in
            subst (λ (z : ℕ). IsChained (links ++ (head ∷ [])) z m) (sym h) (First m))
      ];
    }

-- one item more, which doesn't have to be found
pub chained_past : {X : Type 0} (bucket : X → ℕ) (IsSought : X → Type 0) (items : List X) (heads links : List ℕ) (new : X) → (IsSought new → ⊥)
    → AreChained bucket IsSought items heads links → AreChained bucket IsSought (items ++ (new ∷ [])) heads (links ++ (0 ∷ []))
chained_past bucket IsSought items heads links new unsought a =
    let l = length-append items (new ∷ []) in let s = a.size in
    record {
      size = (let k = length-append links (0 ∷ []) in omega arith);
      within = λ b. (let w = a.within b in omega arith);
      falls = λ m next e. elim (either_at links 0 m next e) [
        | inl old ↦ a.falls m next old
        | inr last ↦ (let r = last.1 in omega arith)
      ];
      filed = λ m x e sought. elim (either_at items new m x e) [
        | inl old ↦ grown links 0 (get_or heads (bucket x) 0) m (a.filed m x old sought)
        | inr last ↦ absurd (unsought (subst IsSought (sym last.1) sought))
      ];
    }
