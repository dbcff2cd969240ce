-- Stages that are handed in, and the pass that is joined of theirs.
use Rattle.std.proofs.Common.{◌≡◌, ◌≢◌, ◌⊎◌, inl, inr, ⊎_elim, ℕ, zero, suc, ◌<◌, ◌≤◌, Bool, true, false, List, [], ◌∷◌, ◌++◌, map, length, Some, slice_get, get_or, option_map, ◌==◌, eq-eqb}
use Rattle.std.proofs.Common.{refl, sym, ap, ◌∙◌, subst, arith}
use Rattle.std.proofs.lemmas.Option.{slice_get_read, slice_get_within, slice_get-map}
use Rattle.rs_model.specs.declared.graph.Role.{Role}
use Rattle.rs_model.specs.declared.machines.State.TheVariants.{Done}
use Rattle.rs_core.specs.Configurations.{state_of}
use Rattle.atomic_table.specs.Seated.{TableId}
use Rattle.rs_model.specs.Data.{Machine_data}
use Rattle.rs_rings.specs.Closed.{Closed_data}
use Rattle.rs_rings.specs.Passes.{Pass_data, Rings_data}
use Rattle.rs_rings.specs.Views.{SpeaksFor, speaks, part_of, state_in, joint_view}
use Rattle.rs_rings.specs.declared.views.View.{View}
use Rattle.rs_rings.proofs.Seats.{bool_cases, speaks_left, speaks_right, the_left, the_right}
use Rattle.rs_session.specs.Data.{Stage_data}
use Rattle.rs_session.specs.Ends.{AreAll, AreAllThere, AreOf, IsThere, KnowsFrom}
use Rattle.rs_session.specs.Stages.{sight_of_stage, IsEnded, IsOf}
use Rattle.rs_session.specs.declared.stages.Stage.{Stage}
use Rattle.rs_session.specs.declared.stages.Stage.TheVariants.{Sending, Receiving, Ended}

-- lists
pub map_itself : {A : Type 0} (xs : List A) → map (λ x. x) xs ≡ xs
map_itself [] = refl
map_itself (x ∷ xs) = ap (λ ys. x ∷ ys) (map_itself xs)

pub none_of : {A : Type 0} (xs : List A) → (0 < length xs → ⊥) → xs ≡ []
none_of [] h = refl
none_of (x ∷ xs) h = absurd (h (omega arith))

pub map_last : {A B : Type 0} (f : A → B) (xs : List A) (x : A) → map f (xs ++ x ∷ []) ≡ map f xs ++ f x ∷ []
map_last f [] x = refl
map_last f (y ∷ ys) x = ap (λ zs. f y ∷ zs) (map_last f ys x)

pub in_front : {A : Type 0} (xs : List A) (x y : A) (i : ℕ) → slice_get xs i ≡ Some y → slice_get (xs ++ x ∷ []) i ≡ Some y
in_front [] x y i e = absurd (cc (e))
in_front (z ∷ zs) x y zero e = e
in_front (z ∷ zs) x y (suc i) e = in_front zs x y i e

pub at_end : {A : Type 0} (xs : List A) (x : A) → slice_get (xs ++ x ∷ []) (length xs) ≡ Some x
at_end [] x = refl
at_end (z ∷ zs) x = at_end zs x

front_or_end : {A : Type 0} (xs : List A) (x y : A) (i : ℕ) → slice_get (xs ++ x ∷ []) i ≡ Some y → (slice_get xs i ≡ Some y) ⊎ (x ≡ y)
front_or_end [] x y zero e = inr (cc (e))
front_or_end [] x y (suc i) e = absurd (cc (e))
front_or_end (z ∷ zs) x y zero e = inl e
front_or_end (z ∷ zs) x y (suc i) e = front_or_end zs x y i e

-- the pass is the stage's own
pub record IsOwn (stage : Stage_data) (pass : Pass_data) : Type 0 where
  pub table : pass.table ≡ stage.table
  pub speaks : SpeaksFor pass.view stage.role.0
  pub only : (r : ℕ) → SpeaksFor pass.view r → r ≡ stage.role.0
  pub part : part_of pass.view stage.role.0 ≡ stage.part

-- of all stages, those in `rest` aren't joined in yet, and the pass speaks for the others
pub record IsJoined (table : TableId) (all rest : List Stage_data) (pass : Pass_data) : Type 0 where
  pub same : pass.table ≡ table
  pub within : (place : ℕ) (stage : Stage_data) → slice_get rest place ≡ Some stage → slice_get all place ≡ Some stage
  pub speaks : (r : ℕ) → IsThere all r → IsThere rest r ⊎ SpeaksFor pass.view r
  pub parts : (r : ℕ) → SpeaksFor pass.view r → (from : IsThere all r) × (part_of pass.view r ≡ from.stage.part)

there_or_last : (xs : List Stage_data) (x : Stage_data) (r : ℕ) → IsThere (xs ++ x ∷ []) r → IsThere xs r ⊎ (x.role.0 ≡ r)
there_or_last xs x r is = ⊎_elim
    (λ (e : slice_get xs is.place ≡ Some is.stage). inl (record { place = is.place; stage = is.stage; stands = e; role = is.role }))
    (λ (e : x ≡ is.stage). inr (ap (λ (s : Stage_data). s.role.0) e ∙ is.role))
    (front_or_end xs x is.stage is.place is.stands)

at_last : (all old rest : List Stage_data) (x : Stage_data) → old ≡ rest ++ x ∷ [] → ((place : ℕ) (stage : Stage_data) → slice_get old place ≡ Some stage → slice_get all place ≡ Some stage)
    → slice_get all (length rest) ≡ Some x
at_last all old rest x is within = within (length rest) x (ap (λ (l : List Stage_data). slice_get l (length rest)) is ∙ at_end rest x)

pub joined_first : (table : TableId) (all rest : List Stage_data) (x : Stage_data) (pass : Pass_data) → AreAll (λ s. s.table ≡ table) all → all ≡ rest ++ x ∷ [] → IsOwn x pass
    → IsJoined table all rest pass
joined_first table all rest x pass tables is own =
    let there : slice_get all (length rest) ≡ Some x = at_last all all rest x is (λ place stage e. e) in
    record {
      same = own.table ∙ tables (length rest) x there;
      within = λ place stage e. ap (λ (l : List Stage_data). slice_get l place) is ∙ in_front rest x stage place e;
      speaks = λ r has. ⊎_elim (λ (t : IsThere rest r). inl t) (λ (e : x.role.0 ≡ r). inr (subst (SpeaksFor pass.view) e own.speaks))
          (there_or_last rest x r (subst (λ (l : List Stage_data). IsThere l r) is has));
      parts = λ r says. (let e : r ≡ x.role.0 = own.only r says in
          (record { place = length rest; stage = x; stands = there; role = sym e }, ap (part_of pass.view) e ∙ own.part));
    }

-- the next stage's pass is of the same table
pub next_table : (table : TableId) (all old rest : List Stage_data) (x : Stage_data) (pass own_pass : Pass_data) → AreAll (λ s. s.table ≡ table) all → old ≡ rest ++ x ∷ []
    → IsJoined table all old pass → IsOwn x own_pass → own_pass.table ≡ table
next_table table all old rest x pass own_pass tables is so own = own.table ∙ tables (length rest) x (at_last all old rest x is so.within)

pub joined_more : (table : TableId) (all old rest : List Stage_data) (x : Stage_data) (pass own_pass pass' : Pass_data) → old ≡ rest ++ x ∷ [] → IsJoined table all old pass → IsOwn x own_pass
    → pass'.table ≡ pass.table → pass'.view ≡ joint_view pass.view own_pass.view
    → IsJoined table all rest pass'
joined_more table all old rest x pass own_pass pass' is so own same both =
    record {
      same = same ∙ so.same;
      within = λ place stage e. so.within place stage (ap (λ (l : List Stage_data). slice_get l place) is ∙ in_front rest x stage place e);
      speaks = λ r has. ⊎_elim
          (λ (t : IsThere old r). ⊎_elim (λ (k : IsThere rest r). inl k) (λ (e : x.role.0 ≡ r). inr (subst (λ (z : View). SpeaksFor z r) (sym both) (right r (subst (SpeaksFor w) e own.speaks))))
          (there_or_last rest x r (subst (λ (l : List Stage_data). IsThere l r) is t)))
          (λ (t : SpeaksFor v r). inr (subst (λ (z : View). SpeaksFor z r) (sym both) (speaks_left r v.parts w.parts t))) (so.speaks r has);
      parts = λ r says. parts r (subst (λ (z : View). SpeaksFor z r) both says);
    }
  where
    v : View
    v = pass.view

    w : View
    w = own_pass.view

    right : (r : ℕ) → SpeaksFor w r → SpeaksFor (joint_view v w) r
    right r t = ⊎_elim (λ (yes' : speaks r v.parts ≡ true). speaks_left r v.parts w.parts yes') (λ (f : speaks r v.parts ≡ false). speaks_right r v.parts w.parts f ∙ t) (bool_cases (speaks r v.parts))

    parts : (r : ℕ) → SpeaksFor (joint_view v w) r → (from : IsThere all r) × (part_of pass'.view r ≡ from.stage.part)
    parts r says = ⊎_elim
        (λ (t : speaks r v.parts ≡ true). (let k = so.parts r t in (k.0, ap (λ (z : View). part_of z r) both ∙ the_left r v.parts w.parts t ∙ k.1)))
        (λ (f : speaks r v.parts ≡ false). (let e : r ≡ x.role.0 = own.only r (sym (speaks_right r v.parts w.parts f) ∙ says) in (
          record { place = length rest; stage = x; stands = at_last all old rest x is so.within; role = sym e },
          ap (λ (z : View). part_of z r) both ∙ the_right r v.parts w.parts f ∙ ap (part_of w) e ∙ own.part,
        )))
        (bool_cases (speaks r v.parts))

pub joined_all : (table : TableId) (all : List Stage_data) (pass : Pass_data) → IsJoined table all [] pass → (r : ℕ) → IsThere all r → SpeaksFor pass.view r
joined_all table all pass so r has = ⊎_elim (λ (t : IsThere [] r). absurd (cc (t.stands))) (λ (t : SpeaksFor pass.view r). t) (so.speaks r has)

-- what the closed rings know is what the joined pass knew
pub knows_from : (all : List Stage_data) (session rings : Rings_data) (pass : Pass_data) (closed : Closed_data) → rings ≡ session → closed.machines ≡ rings.machines → closed.last ≡ pass.view
    → AreAllThere (length session.machines) all
    → ((r : ℕ) → IsThere all r → SpeaksFor pass.view r) → ((r : ℕ) → SpeaksFor pass.view r → (from : IsThere all r) × (part_of pass.view r ≡ from.stage.part)) → KnowsFrom all closed
knows_from all session rings pass closed is machines last each speaks parts r below =
    let many : length closed.machines ≡ length session.machines = ap (length {A = Machine_data}) machines ∙ ap (λ (z : Rings_data). length z.machines) is in
    let k = parts r (speaks r (each r (omega arith))) in
    (k.0, ap (λ (z : View). part_of z r) last ∙ k.1)

-- stages of a session are of its rings' table
of_table : (session : Rings_data) (stage : Stage) → IsOf session stage → (sight_of_stage stage).table ≡ session.table
of_table session (Sending s) of = of.table
of_table session (Receiving s) of = of.table
of_table session (Ended s) of = of.table

shown_at : (stages : List Stage) (place : ℕ) (s : Stage_data) → slice_get (map sight_of_stage stages) place ≡ Some s
    → (stage : Stage) × (slice_get stages place ≡ Some stage) × (sight_of_stage stage ≡ s)
shown_at [] place s e = absurd (cc (e))
shown_at (x ∷ xs) zero s e = (x, refl, cc (e))
shown_at (x ∷ xs) (suc n) s e = shown_at xs n s e

pub same_tables : (session rings : Rings_data) (stages : List Stage) → rings ≡ session → AreOf session stages → AreAll (λ s. s.table ≡ rings.table) (map sight_of_stage stages)
same_tables session rings stages is of place s e =
    let at = shown_at stages place s e in
    ap (λ (z : Stage_data). z.table) (sym at.2) ∙ of_table session at.0 (of place at.0 at.1) ∙ sym (ap (λ (z : Rings_data). z.table) is)

-- all have ended
pub each_ended : (all : List Stage_data) (session rings : Rings_data) (pass : Pass_data) → rings ≡ session → rings.roles ≡ length session.machines → AreAll (IsEnded session) all
    → AreAllThere (length session.machines) all
    → ((r : ℕ) → IsThere all r → SpeaksFor pass.view r) → ((r : ℕ) → SpeaksFor pass.view r → (from : IsThere all r) × (part_of pass.view r ≡ from.stage.part))
    → (r : ℕ) → r < rings.roles → state_of (slice_get rings.machines r) (state_in pass.view r) ≡ Some Done
each_ended all session rings pass is many ended each speaks parts r below =
    let k = parts r (speaks r (each r (omega arith))) in
    (λ i. state_of (slice_get (is i).machines (sym k.0.role i)) (k.1 i).state) ∙ (ended k.0.place k.0.stage k.0.stands).stands

-- what holds of the stages as they are handed in
pub unmapped : (P : List Stage_data → Type 0) (xs all : List Stage_data) → xs ≡ all → P (map (λ s. s) xs) → P all
unmapped P xs all is p = subst P (map_itself xs ∙ is) p

-- a stage that isn't of the role
pub not_here : {A : Type 0} (f : A → Stage_data) (xs : List A) (k : ℕ) (item : A) (own role : Role) (b : Bool) → k < length xs → item ≡ get_or xs k item → own ≡ (f item).role → b ≡ (own.0 == role.0)
    → b ≡ false
    → (stage : Stage_data) → slice_get (map f xs) k ≡ Some stage → stage.role.0 ≢ role.0
not_here f xs k item own role b below read is test unlike stage at same =
    let there : slice_get xs k ≡ Some item = slice_get_read xs (length xs) k item refl below read in
    let both : Some (f item) ≡ Some stage = sym (slice_get-map f xs k ∙ ap (option_map f) there) ∙ at in
    let one : f item ≡ stage = cc (both) in
    let equal : own.0 ≡ role.0 = ap (λ (z : Role). z.0) is ∙ ap (λ (z : Stage_data). z.role.0) one ∙ same in
    let yes' : b ≡ true = test ∙ eq-eqb own.0 role.0 equal in
    cc (yes', unlike)

pub unmapped_parts : (all : List Stage_data) (view : View) → ((r : ℕ) → SpeaksFor view r → (from : IsThere (map (λ s. s) all) r) × (part_of view r ≡ from.stage.part)) → (r : ℕ) → SpeaksFor view r
    → (from : IsThere all r) × (part_of view r ≡ from.stage.part)
unmapped_parts all view parts = subst (λ (l : List Stage_data). (r : ℕ) → SpeaksFor view r → (from : IsThere l r) × (part_of view r ≡ from.stage.part)) (map_itself all) parts

pub ended_tables : (session rings : Rings_data) (all : List Stage_data) → rings ≡ session → AreAll (IsEnded session) all → AreAll (λ s. s.table ≡ rings.table) (map (λ s. s) all)
ended_tables session rings all is of =
    subst (λ (l : List Stage_data). AreAll (λ s. s.table ≡ rings.table) l) (sym (map_itself all)) (λ place s e. (of place s e).table ∙ sym (ap (λ (z : Rings_data). z.table) is))

-- what is told of stages as they are handed in holds of the stages that were there
pub each_there : (n m : ℕ) (xs all : List Stage_data) → n ≡ m → xs ≡ all → AreAllThere n (map (λ s. s) xs) → AreAllThere m all
each_there n m xs all is same each = unmapped (AreAllThere m) xs all same (subst (λ (k : ℕ). AreAllThere k (map (λ s. s) xs)) is each)

pub some_there : (n : ℕ) (all : List Stage_data) → 2 ≤ n → AreAllThere n all → 0 < length all
some_there n all many each = let first = each 0 (omega arith) in let below = slice_get_within all first.place first.stage first.stands in omega arith

pub itself_speaks : (all : List Stage_data) (view : View) → ((r : ℕ) → IsThere (map (λ s. s) all) r → SpeaksFor view r) → (r : ℕ) → IsThere all r → SpeaksFor view r
itself_speaks all view speaks = subst (λ (l : List Stage_data). (r : ℕ) → IsThere l r → SpeaksFor view r) (map_itself all) speaks

-- a joint view speaks for the roles of the first view, and for those of the second
pub first_speaks_on : (v w z : View) (r : ℕ) → z ≡ joint_view v w → SpeaksFor v r → SpeaksFor z r
first_speaks_on v w z r is t = subst (λ (u : View). SpeaksFor u r) (sym is) (speaks_left r v.parts w.parts t)

pub second_speaks_on : (v w z : View) (r : ℕ) → z ≡ joint_view v w → SpeaksFor w r → SpeaksFor z r
second_speaks_on v w z r is t =
    subst (λ (u : View). SpeaksFor u r) (sym is)
    (⊎_elim (λ (yes' : speaks r v.parts ≡ true). speaks_left r v.parts w.parts yes') (λ (f : speaks r v.parts ≡ false). speaks_right r v.parts w.parts f ∙ t) (bool_cases (speaks r v.parts)))
