-- A machine that is its projection follows it.
use Rattle.std.proofs.Common.{◌≡◌, ◌≢◌, inl, inr, ℕ, suc, ◌<◌, true, false, List, [], ◌∷◌, ◌++◌, Some, slice_get, length, refl, sym, ap, subst, nat_lt, arith, append-nil, get_or}
use Rattle.std.proofs.lemmas.Option.{slice_get-get_or}
use Rattle.std.proofs.lemmas.Bool.Decides.{leb_tells}
use Rattle.rs_model.specs.Data.{Machine_data}
use Rattle.rs_model.specs.WellFormed.{IsWellFormedMachine}
use Rattle.rs_model.specs.declared.graph.Arm.{Arm}
use Rattle.rs_model.specs.declared.graph.Role.{Role}
use Rattle.rs_model.specs.declared.machines.State.TheVariants.{Puts, Takes}
use Rattle.rs_core.proofs.Items.{Item, Give, Get, subsort_itself}
use Rattle.rs_core.proofs.Stands.{Trace, Does, Gives, Gets, pick}
use Rattle.rs_safety.proofs.Kept.{Kept, kept_refl}
use Rattle.rs_safety.proofs.Grow.{Follower, Given, Taken}

pub trace_snoc : (m : Machine_data) (f : ℕ → ℕ) (s t u : ℕ) (xs : List Item) (x : Item) → Trace m f s xs t → Does m (f (length xs)) t x u
    → Trace m f s (xs ++ (x ∷ [])) u
trace_snoc m f s t u [] x tr d = let P : ℕ → Type 0 = λ z. Does m (f 0) z x u in (u, subst P (sym tr) d, refl)
trace_snoc m f s t u (y ∷ ys) x tr d = (tr.0, tr.1, trace_snoc m (λ k. f (suc k)) tr.0 t u ys x tr.2 d)

-- there is an arm of that number, or of number 0
pick_below : (a : ℕ) (arms : List Arm) → 0 < length arms → pick a arms < length arms
pick_below a arms h = elim (leb_tells (suc a) (length arms)) [
  | inl t ↦ (let e : nat_lt a (length arms) ≡ true = t.0 in rw e t.1)
  | inr t ↦ (let e : nat_lt a (length arms) ≡ false = t.0 in rw e h)
]

pub picked : (a : ℕ) (arms : List Arm) → arms ≢ [] → (arm : Arm) × (slice_get arms (pick a arms) ≡ Some arm)
picked a [] ne = absurd (ne refl)
picked a (x ∷ xs) ne = (get_or (x ∷ xs) (pick a (x ∷ xs)) x, slice_get-get_or (x ∷ xs) (pick a (x ∷ xs)) x (pick_below a (x ∷ xs) (omega arith)))

-- the follower: it owes nothing, and has done what it passed
abbrev pub Walks : Machine_data → (ℕ → ℕ) → List Item → List Item → List Item → ℕ → Type 0
Walks m f eaten done owed t = (owed ≡ []) × Trace m f m.start done t

equal_kept : (done owed : List Item) (x : Item) → owed ≡ [] → Kept ((done ++ owed) ++ (x ∷ [])) ((done ++ (x ∷ [])) ++ [])
equal_kept done owed x e =
    let a : (done ++ owed) ++ (x ∷ []) ≡ done ++ (x ∷ []) = rw (e, append-nil done) refl in
    let b : (done ++ (x ∷ [])) ++ [] ≡ done ++ (x ∷ []) = append-nil (done ++ (x ∷ [])) in
    let P : List Item → Type 0 = λ z. Kept z ((done ++ (x ∷ [])) ++ []) in
    let Q : List Item → Type 0 = λ z. Kept (done ++ (x ∷ [])) z in
    subst P (sym a) (subst Q (sym b) (kept_refl (done ++ (x ∷ []))))

equal_gives : (m : Machine_data) (roles : ℕ) (f : ℕ → ℕ) → IsWellFormedMachine m roles → (eaten done owed : List Item) (t : ℕ) (q : Role) (k : ℕ) (arms : List Arm)
    → Walks m f eaten done owed t → slice_get m.states t ≡ Some (Puts q arms) → Given (Walks m f) eaten done owed q k arms
equal_gives m roles f is eaten done owed t q k arms w st =
    let fit = is.puts t q arms st in
    let pk = picked (f (length done)) arms fit.some in
    let x : Item = Give k q pk.0.label pk.0.sort in
    let does : Gives m (f (length done)) t q pk.0.label pk.0.sort pk.0.next = record {
      arms = arms;
      arm = pk.0;
      puts = st;
      chosen = pk.1;
      label = refl;
      serves = subsort_itself pk.0.sort;
      next = refl;
    } in
    record {
      index = pick (f (length done)) arms;
      arm = pk.0;
      done' = done ++ (x ∷ []);
      owed' = [];
      stands = pk.1;
      follows = (refl, trace_snoc m f m.start t pk.0.next done x w.1 does);
      kept = equal_kept done owed x w.0;
    }

-- a state has one arm with a label
one_arm_shown : (arms : List Arm) (place : ℕ) (arm : Arm)
    → ((i j : ℕ) (a b : Arm) → slice_get arms i ≡ Some a → slice_get arms j ≡ Some b → a.label ≡ b.label → i ≡ j)
    → slice_get arms place ≡ Some arm → (k : ℕ) (x : Arm) → slice_get arms k ≡ Some x → x.label ≡ arm.label → x ≡ arm
one_arm_shown arms place arm once at k x h e =
    let same : k ≡ place = once k place x arm h at e in
    let P : ℕ → Type 0 = λ z. slice_get arms z ≡ Some x in
    let there : slice_get arms place ≡ Some x = subst P same h in
    cc (there, at)

equal_takes : (m : Machine_data) (roles : ℕ) (f : ℕ → ℕ) → IsWellFormedMachine m roles → (eaten done owed : List Item) (t : ℕ) (q : Role) (k : ℕ) (arms : List Arm) (place : ℕ) (arm : Arm)
    → Walks m f eaten done owed t → slice_get m.states t ≡ Some (Takes q arms) → slice_get arms place ≡ Some arm
    → Taken (Walks m f) eaten done owed q k arm
equal_takes m roles f is eaten done owed t q k arms place arm w st h =
    let x : Item = Get k q arm.label arm.sort in
    let does : Gets m t q arm.label arm.sort arm.next =
    record {
      arms = arms;
      arm = arm;
      place = place;
      takes = st;
      chosen = h;
      label = refl;
      only = one_arm_shown arms place arm (is.takes t q arms st).once h;
      serves = subsort_itself arm.sort;
      next = refl;
    } in
    record {
      done' = done ++ (x ∷ []);
      owed' = [];
      follows = (refl, trace_snoc m f m.start t arm.next done x w.1 does);
      kept = equal_kept done owed x w.0;
    }

pub equal : (m : Machine_data) (roles : ℕ) (f : ℕ → ℕ) (bound : ℕ) → IsWellFormedMachine m roles → Follower m m f bound
equal m roles f bound is = record {
  F = Walks m f;
  start = (refl, refl);
  gives = equal_gives m roles f is;
  takes = equal_takes m roles f is;
  ends = λ eaten done owed t w d. record {
    done' = done;
    last = t;
    follows = (refl, w.1);
    trace = w.1;
    stands = d;
    kept = (let P : List Item → Type 0 = λ z. Kept z done in let e : done ++ owed ≡ done = rw (w.0, append-nil done) refl in subst P (sym e) (kept_refl done));
  };
  trace = λ eaten done owed t w. (t, w.1);
  short = λ eaten done owed t w. (let e : length owed ≡ 0 = ap length w.0 in omega arith);
}
