-- What is seen of a machine's states are its acts, by their numbers.
use Rattle.std.proofs.Common.{◌≡◌, ◌⊎◌, inl, inr, ℕ, zero, suc, ◌+◌, ◌&&◌, List, [], ◌∷◌, ◌++◌, map, Bool, true, false, Some, option_map, slice_get, refl, sym, ap, ◌∙◌, subst, arith}
use Rattle.std.proofs.lemmas.Option.{slice_get-map}
use Rattle.std.specs.List.{list_all}
use Rattle.rs_model.specs.Data.{Names_data}
use Rattle.rs_model.specs.declared.graph.Arm.{Arm}
use Rattle.rs_model.specs.declared.graph.Role.{Role}
use Rattle.rs_model.specs.declared.machines.State.{State}
use Rattle.rs_text.specs.Names.{is_among, place_of, number_or}
use Rattle.rs_text.specs.Signs.{Sign, plain, number}
use Rattle.rs_bodies.specs.declared.dialects.Dialect.TheVariants.{Acts}
use Rattle.rs_bodies.specs.declared.dialects.Mark.{Mark}
use Rattle.rs_bodies.specs.declared.dialects.Mark.TheVariants as mark
use Rattle.rs_bodies.specs.Dialects.{BehindRole, with_mark, mark_sign, state_by_mark}
use Rattle.rs_bodies.specs.Fits.{body_fits}
use Rattle.rs_bodies.specs.Graph.{heads_of, Numbering, role_by_name}
use Rattle.rs_bodies.specs.Scenes.{Scene}
use Rattle.rs_bodies.specs.Trees.{Body}
use Rattle.rs_bodies.proofs.Heads.{heads_mapped}
use Rattle.rs_machines.specs.Machines.{act_of_turn, end_states}
use Rattle.rs_tables.specs.Machines.{state_of_row, peers_of_row, peers_of_rows}
use Rattle.rs_tables.specs.Trees.{RowTree, end_row, choice_row}
use Rattle.rs_places.proofs.Known.{HeadWords, words_made, AreRoles, HasRoles, body_roles, all_at}
use Rattle.rs_places.proofs.RowWalks.{row_seen, rows_seen}
use Rattle.rs_places.proofs.Talks.{mapped_there, name_is}
use Rattle.rs_places.proofs.Turns.{heads, head_seen}

-- what is seen of an act of this number: the peer's name and the mark, or the number and the peer's name
abbrev pub IsSeen : List (List ℕ) → ℕ → Mark → Role → List Sign → Type 0
IsSeen roles n m peer x = (name : List ℕ) × (slice_get roles peer.0 ≡ Some name) × ((x ≡ plain name ∷ mark_sign m ∷ []) ⊎ (x ≡ number n ∷ plain name ∷ []))

-- each act of these states is seen at its number
abbrev pub Shows : List (List ℕ) → List State → List (List Sign) → Type 0
Shows roles states seen = (n : ℕ) (m : Mark) (peer : Role) (arms : List Arm) → slice_get states n ≡ Some (state_by_mark m peer arms)
    → (x : List Sign) × (slice_get seen n ≡ Some x) × IsSeen roles n m peer x

not_end : (e : Bool) (n : ℕ) (m : Mark) (peer : Role) (arms : List Arm) → slice_get (end_states e) n ≡ Some (state_by_mark m peer arms) → ⊥
not_end true zero mark.Puts peer arms h = cc h
not_end true zero mark.Takes peer arms h = cc h
not_end true (suc n) m peer arms h = cc h
not_end false n m peer arms h = cc h

before_end : (states : List State) (e : Bool) (n : ℕ) (m : Mark) (peer : Role) (arms : List Arm) → slice_get (states ++ end_states e) n ≡ Some (state_by_mark m peer arms)
    → slice_get states n ≡ Some (state_by_mark m peer arms)
before_end [] e n m peer arms h = absurd (not_end e n m peer arms h)
before_end (x ∷ states) e zero m peer arms h = h
before_end (x ∷ states) e (suc n) m peer arms h = before_end states e n m peer arms h

same_act : (m l : Mark) (p q : Role) (xs ys : List Arm) → state_by_mark m p xs ≡ state_by_mark l q ys → (m ≡ l) × (p ≡ q)
same_act mark.Puts mark.Puts p q xs ys h = (refl, cc h)
same_act mark.Puts mark.Takes p q xs ys h = absurd (cc h)
same_act mark.Takes mark.Puts p q xs ys h = absurd (cc h)
same_act mark.Takes mark.Takes p q xs ys h = (refl, cc h)

head_is_seen : (n : Numbering) (k : ℕ) (first : List ℕ) (turn : BehindRole Acts) (mine arms : List Arm) (m : Mark) (peer : Role) → act_of_turn n first turn mine ≡ state_by_mark m peer arms
    → AreRoles Acts n.names.roles first turn → IsSeen n.names.roles k m peer (head_seen Acts first turn mine)
head_is_seen n k first (with_mark l) mine arms m peer e known =
    let same = same_act l m (role_by_name n first) peer mine arms e in (
      first,
      ap (λ (z : Role). slice_get n.names.roles z.0) (sym same.1) ∙ name_is n.names.roles first known,
      inl (ap (λ z. plain first ∷ mark_sign z ∷ []) same.0),
    )

pub body_shows : (num : Numbering) (b : Body Acts) (s : Scene) (e : Bool) → s.roles ≡ num.names.roles → body_fits Acts b s ≡ true
    → Shows num.names.roles (heads_of Acts (act_of_turn num) num b [] 0 ++ end_states e) (heads Acts num b [] 0)
body_shows num b s e same fits = λ n m peer arms h.
    let raw : List (HeadWords Acts) = heads_of Acts (words_made Acts) num b [] 0 in
    let act : HeadWords Acts → State = λ h. act_of_turn num h.first h.turn h.arms in
    let look : HeadWords Acts → List Sign = λ h. head_seen Acts h.first h.turn h.arms in
    let states = heads_of Acts (act_of_turn num) num b [] 0 in
    let there = mapped_there act raw n (state_by_mark m peer arms) (ap (λ z. slice_get z n) (heads_mapped Acts act (words_made Acts) (act_of_turn num) (λ x t a. refl) num b [] 0) ∙ before_end states e n m peer arms h) in
    let known = subst (λ (z : List (List ℕ)). HasRoles Acts z there.0) same (all_at (HasRoles Acts s.roles) raw n there.0 (body_roles Acts b s num [] 0 fits) there.1) in (
      look there.0,
      ap (λ z. slice_get z n) (sym (heads_mapped Acts look (words_made Acts) (head_seen Acts) (λ x t a. refl) num b [] 0)) ∙ slice_get-map look raw n ∙ ap (option_map look) there.1,
      head_is_seen num n there.0.first there.0.turn there.0.arms arms m peer there.2 known,
    )

-- ---- tables

both : (a b : Bool) → (a && b) ≡ true → (a ≡ true) × (b ≡ true)
both true b h = (refl, h)
both false b h = absurd (cc h)

peer_known : (roles : List (List ℕ)) (rows : List RowTree) (n : ℕ) (row : RowTree) → list_all (λ x. is_among x roles) (peers_of_rows rows) ≡ true → slice_get rows n ≡ Some row
    → list_all (λ x. is_among x roles) (peers_of_row row) ≡ true
peer_known roles [] n row h e = absurd (cc e)
peer_known roles (end_row ∷ rows) zero row h e = let same : end_row ≡ row = cc e in subst (λ (z : RowTree). list_all (λ x. is_among x roles) (peers_of_row z) ≡ true) same refl
peer_known roles (end_row ∷ rows) (suc n) row h e = peer_known roles rows n row h e
peer_known roles (choice_row peer m first later ∷ rows) zero row h e =
    let mine : RowTree = choice_row peer m first later in
    let same : mine ≡ row = cc e in
    let known = (both (is_among peer roles) (list_all (λ x. is_among x roles) (peers_of_rows rows)) h).0 in
    subst (λ (z : RowTree). list_all (λ x. is_among x roles) (peers_of_row z) ≡ true) same (rw known refl)
peer_known roles (choice_row peer m first later ∷ rows) (suc n) row h e = peer_known roles rows n row (both (is_among peer roles) (list_all (λ x. is_among x roles) (peers_of_rows rows)) h).1 e

row_there : (rows : List RowTree) (j n : ℕ) (row : RowTree) → slice_get rows n ≡ Some row → slice_get (rows_seen j rows) n ≡ Some (row_seen (j + n) row)
row_there [] j n row h = absurd (cc h)
row_there (x ∷ rows) j zero row h = let same : x ≡ row = cc h in let e : j ≡ j + 0 = omega arith in ap (λ z. Some (row_seen z x)) e ∙ ap (λ z. Some (row_seen (j + 0) z)) same
row_there (x ∷ rows) j (suc n) row h = let e : suc j + n ≡ j + suc n = omega arith in row_there rows (suc j) n row h ∙ ap (λ z. Some (row_seen z row)) e

row_is_seen : (names : Names_data) (n : ℕ) (row : RowTree) (arms : List Arm) (m : Mark) (peer : Role) → state_of_row names row ≡ state_by_mark m peer arms
    → list_all (λ x. is_among x names.roles) (peers_of_row row) ≡ true → IsSeen names.roles n m peer (row_seen n row)
row_is_seen names n end_row arms mark.Puts peer e known = absurd (cc e)
row_is_seen names n end_row arms mark.Takes peer e known = absurd (cc e)
row_is_seen names n (choice_row name l first later) arms m peer e known =
    let mine : Role = record { 0 = number_or (place_of name names.roles) } in
    let same : mine ≡ peer = (same_act l m mine peer _ arms e).1 in (
      name,
      ap (λ (z : Role). slice_get names.roles z.0) (sym same) ∙ name_is names.roles name (both (is_among name names.roles) true known).0,
      inr refl,
    )

pub table_shows : (names : Names_data) (rows : List RowTree) → list_all (λ x. is_among x names.roles) (peers_of_rows rows) ≡ true → Shows names.roles (map (state_of_row names) rows) (rows_seen 0 rows)
table_shows names rows known = λ n m peer arms h.
    let there = mapped_there (state_of_row names) rows n (state_by_mark m peer arms) h in
    let e : 0 + n ≡ n = omega arith in (
      row_seen n there.0,
      row_there rows 0 n there.0 there.1 ∙ ap (λ z. Some (row_seen z there.0)) e,
      row_is_seen names n there.0 arms m peer there.2 (peer_known names.roles rows n there.0 known there.1),
    )
