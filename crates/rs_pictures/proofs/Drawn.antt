-- What is drawn for a place are the lines of whatever body is written for it.
use Rattle.std.proofs.Common.{◌≡◌, ℕ, zero, suc, ◌+◌, ◌<◌, ◌≤◌, ◌-◌, eqb, List, [], ◌∷◌, ◌++◌, length, codes, Bool, true, false, Option, Some, None, drop, get_or, slice_get, refl, sym, ap, ◌∙◌}
use Rattle.std.proofs.Common.{subst, append_assoc, append-nil, arith}
use Rattle.std.proofs.lemmas.Grind.{flat_map-append}
use Rattle.std.proofs.lemmas.Option.{slice_get_read}
use Rattle.std.proofs.lemmas.Bool.{eq-eqb, eqb-true}
use Rattle.std.specs.List.{list_all}
use Rattle.rs_model.specs.Data.{Names_data, Protocol_data}
use Rattle.rs_model.specs.declared.graph.Arm.{Arm}
use Rattle.rs_model.specs.declared.graph.Node.{Node}
use Rattle.rs_model.specs.declared.graph.Node.TheVariants.{Finished, Talk}
use Rattle.rs_model.specs.declared.graph.Role.{Role}
use Rattle.rs_model.specs.declared.values.Sort.{Sort}
use Rattle.rs_text.specs.KnownNames.{role_named}
use Rattle.rs_text.specs.NamePlaces.{name_at, text_or_none}
use Rattle.rs_text.specs.Names.{differ, number_or}
use Rattle.rs_text.specs.Shown.{shown_sort}
use Rattle.rs_text.specs.Sound.{IsSound}
use Rattle.rs_text.proofs.Basics.{some_is, any_stands, stands_any, drop_get, both}
use Rattle.rs_text.proofs.Naming.{decides_sound, place_at}
use Rattle.rs_bodies.specs.declared.dialects.Dialect.TheVariants.{Talks}
use Rattle.rs_bodies.specs.declared.dialects.Head.{Head}
use Rattle.rs_bodies.specs.declared.dialects.Head.TheVariants as head
use Rattle.rs_bodies.specs.declared.places.Place.{Place}
use Rattle.rs_bodies.specs.declared.places.Place.TheVariants as place
use Rattle.rs_bodies.specs.Canonical.{Draws, DrawsHead, IsHeadOf, IsArmOf}
use Rattle.rs_bodies.specs.Dialects.{BehindRole, sends_to}
use Rattle.rs_bodies.specs.Places.{choice, name_of_place, places_of_protocol, IsGoneBackTo}
use Rattle.rs_bodies.specs.Shapes.{leads_to, place_leads, leads_from}
use Rattle.rs_bodies.specs.Trees.{Body, ends, again, binds, acts, offers, one, more}
use Rattle.rs_global.specs.Trees.{ProtocolTree}
use Rattle.rs_global.proofs.Places.{stands, is_talk}
use Rattle.rs_pictures.specs.Drawing.{AddsCases, AddsPlace, AddsTalk, EndsLast, NoEndBelow, case_of}
use Rattle.rs_pictures.specs.Lines.{message, begins_loop, goes_back, all_end, closes, Line, at, line_text, lines_text}
use Rattle.rs_pictures.specs.Sequences.{body_lines, case_lines, message_of, participants_text, sequence_text}

-- ---- places

same_eqb : (a b : ℕ) → a ≡ b → eqb a b ≡ true
same_eqb a b h = eq-eqb a b h

-- the test whether a talk is gone back to is right
pub back_is : (p : List Place) (n : ℕ) → leads_from p n n ≡ true → IsGoneBackTo p n
back_is p n h =
    let f = any_stands Place (place_leads n) (drop n p) h in
    back_of p n f.0 f.1 (sym (drop_get Place n p f.0) ∙ f.2) f.3
  where
    back_of : (p : List Place) (n i : ℕ) (x : Place) → slice_get p (n + i) ≡ Some x → place_leads n x ≡ true → IsGoneBackTo p n
    back_of p n i place.End e h = absurd (cc h)
    back_of p n i (place.Point q) e h =
        let f = any_stands Arm (leads_to n) q.arms h in
        record { number = n + i; behind = omega arith; head = q.head; arms = q.arms; stands = e; index = f.0; arm = f.1; holds = f.2; leads = eqb-true f.1.next n f.3 }

pub is_back : (p : List Place) (n : ℕ) → IsGoneBackTo p n → leads_from p n n ≡ true
is_back p n g =
    let behind : n ≤ g.number = g.behind in
    let same : g.number ≡ n + (g.number - n) = omega arith in
    stands_any Place (place_leads n) (drop n p) (g.number - n) (choice g.head g.arms) (drop_get Place n p (g.number - n) ∙ ap (λ z. slice_get p z) (sym same) ∙ g.stands)
    (stands_any Arm (leads_to n) g.arms g.index g.arm g.holds (same_eqb g.arm.next n g.leads))

not_back : (p : List Place) (n : ℕ) → leads_from p n n ≡ false → IsGoneBackTo p n → ⊥
not_back p n h g = cc (h, is_back p n g)

pub none_below : (p : Protocol_data) (n : ℕ) (s r : Role) (arms : List Arm) → EndsLast p → slice_get p.nodes n ≡ Some (Talk s r arms) → NoEndBelow p (n + 1)
none_below p n s r arms last e m end = let k : n < m = last m n (head.Talk s r) arms end (stands p.nodes n (Talk s r arms) e) in omega arith

abbrev head_in : Head → Place → Head
head_in h place.End = h
head_in h (place.Point q) = q.head

abbrev arms_in : Place → List Arm
arms_in place.End = []
arms_in (place.Point q) = q.arms

-- the talk that stands at a place
talk_is : (p : Protocol_data) (n : ℕ) (s r : Role) (arms ours : List Arm) (h : Head) → slice_get p.nodes n ≡ Some (Talk s r arms) → slice_get (places_of_protocol p) n ≡ Some (choice h ours)
    → (h ≡ head.Talk s r) × (ours ≡ arms)
talk_is p n s r arms ours h e k =
    let same : choice h ours ≡ choice (head.Talk s r) arms = some_is (choice h ours) (choice (head.Talk s r) arms) (sym k ∙ stands p.nodes n (Talk s r arms) e) in
    (ap (head_in h) same, ap arms_in same)

no_end : (p : Protocol_data) (n : ℕ) (s r : Role) (arms : List Arm) → slice_get p.nodes n ≡ Some (Talk s r arms) → slice_get (places_of_protocol p) n ≡ Some place.End → ⊥
no_end p n s r arms e k = cc (some_is place.End (choice (head.Talk s r) arms) (sym k ∙ stands p.nodes n (Talk s r arms) e))

-- no talk stands at a place
abbrev pub NoTalk : Protocol_data → ℕ → Type 0
NoTalk p n = (h : Head) (arms : List Arm) → slice_get (places_of_protocol p) n ≡ Some (choice h arms) → ⊥

pub no_talk : (p : Protocol_data) (n : ℕ) (found : Option Node) → slice_get p.nodes n ≡ found → ((s r : Role) (arms : List Arm) → found ≡ Some (Talk s r arms) → ⊥) → NoTalk p n
no_talk p n found e none h arms k =
    let t = is_talk p n h arms k in
    none t.sender t.receiver arms (sym e ∙ t.talks)

-- the talk that was found among the nodes
pub talk_found : (p : Protocol_data) (n : ℕ) (nodes : List Node) (x : Node) (s r : Role) (arms ours : List Arm) → nodes ≡ p.nodes → n < length nodes → x ≡ get_or nodes n x → x ≡ Talk s r arms → ours ≡ arms
    → slice_get p.nodes n ≡ Some (Talk s r ours)
talk_found p n nodes x s r arms ours same low e is our =
    subst (λ (z : List Node). slice_get z n ≡ Some (Talk s r ours)) same (slice_get_read nodes (length nodes) n x refl low e ∙ ap Some (is ∙ ap (Talk s r) (sym our)))

pub end_found : (p : Protocol_data) (n : ℕ) (nodes : List Node) (x : Node) → nodes ≡ p.nodes → n < length nodes → x ≡ get_or nodes n x → x ≡ Finished → NoTalk p n
end_found p n nodes x same low e is =
    no_talk p n (Some x) (subst (λ (z : List Node). slice_get z n ≡ Some x) same (slice_get_read nodes (length nodes) n x refl low e)) (λ s r arms h. cc (some_is x (Talk s r arms) h, is))

beyond : (nodes : List Node) (n : ℕ) → length nodes ≤ n → slice_get nodes n ≡ None
beyond [] n h = refl
beyond (x ∷ nodes) zero h = absurd (omega arith)
beyond (x ∷ nodes) (suc n) h = beyond nodes n (omega arith)

pub none_found : (p : Protocol_data) (n : ℕ) (nodes : List Node) → nodes ≡ p.nodes → length nodes ≤ n → NoTalk p n
none_found p n nodes same far = no_talk p n None (subst (λ (z : List Node). slice_get z n ≡ None) same (beyond nodes n far)) (λ s r arms h. cc h)

-- ---- lines

lone_line : (old line : List ℕ) → old ++ line ≡ old ++ (line ++ [])
lone_line old line = ap (λ z. old ++ z) (sym (append-nil line))

two_texts : (old a b mid new : List ℕ) → mid ≡ old ++ a → new ≡ mid ++ b → new ≡ old ++ (a ++ b)
two_texts old a b mid new h k = k ∙ ap (λ z. z ++ b) h ∙ append_assoc old a b

-- lines with one more behind them
one_behind : (roles : ℕ) (old mid new : List ℕ) (lines : List Line) (last : Line) → mid ≡ old ++ lines_text roles lines → new ≡ mid ++ line_text roles last
    → new ≡ old ++ lines_text roles (lines ++ last ∷ [])
one_behind roles old mid new lines last h k =
    two_texts old (lines_text roles lines) (line_text roles last) mid new h k
    ∙ ap (λ z. old ++ z) (ap (λ z. lines_text roles lines ++ z) (sym (append-nil (line_text roles last))) ∙ sym (flat_map-append (line_text roles) lines (last ∷ [])))

-- ---- names

role_is : (names : Names_data) (r : Role) (name : List ℕ) → IsSound names → slice_get names.roles r.0 ≡ Some name → role_named names name ≡ r
role_is names r name sound e =
    let all = (decides_sound names).1 sound in
    let d : differ names.roles ≡ true = (both (differ names.roles) (list_all _ names.roles) (both _ _ all).0).0 in
    ap (λ (z : Option ℕ). record { 0 = number_or z }) (place_at names.roles r.0 name d e)

message_is : (names : Names_data) (s r : Role) (arm : Arm) (p : List ℕ) (t : BehindRole Talks) (label : List ℕ) (sort : Option Sort) → IsSound names → IsHeadOf Talks names (head.Talk s r) p t
    → IsArmOf names label sort arm → message_of names p t label sort ≡ message s r (name_at names.labels arm.label.0) (shown_sort arm.sort)
message_is names s r arm p (sends_to q) label sort sound h a =
    rw (role_is names s p sound h.0, role_is names r q sound h.1, ap text_or_none a.0, a.1) refl

label_is : (names : Names_data) (arm : Arm) (label : List ℕ) (sort : Option Sort) → IsArmOf names label sort arm → name_at names.labels arm.label.0 ≡ label
label_is names arm label sort a = ap text_or_none a.0

-- ---- a place

pub back_added : (names : Names_data) (p : Protocol_data) (depth from n : ℕ) (old new : List ℕ) → n < from → NoEndBelow p from
    → new ≡ old ++ line_text p.roles (at depth (goes_back (name_of_place n))) → AddsPlace names p depth from n old new
back_added names p depth from n old new low none e ends h = let k : from ≤ n = none n h in absurd (omega arith)
back_added names p depth from n old new low none e (again name) h = rw h.1 (e ∙ lone_line old (line_text p.roles (at depth (goes_back (name_of_place n)))))
back_added names p depth from n old new low none e (binds name body) h = let k : from ≤ n = h.0 in absurd (omega arith)
back_added names p depth from n old new low none e (acts s t label sort body) h = let k : from ≤ n = h.0 in absurd (omega arith)
back_added names p depth from n old new low none e (offers s t arms) h = let k : from ≤ n = h.0 in absurd (omega arith)

no_head : (names : Names_data) (p : Protocol_data) (n : ℕ) (body : Body Talks) → NoTalk p n → DrawsHead Talks names (places_of_protocol p) n body → ⊥
no_head names p n ends none h = h
no_head names p n (again name) none h = h
no_head names p n (binds name body) none h = h
no_head names p n (acts s t label sort body) none h = none h.1.head (h.0 ∷ []) h.1.stands
no_head names p n (offers s t arms) none h = none h.3.head (h.0 ∷ h.1 ∷ h.2) h.3.stands

pub end_added : (names : Names_data) (p : Protocol_data) (depth from n : ℕ) (old new : List ℕ) → from ≤ n → NoTalk p n
    → new ≡ old ++ line_text p.roles (at depth all_end) → AddsPlace names p depth from n old new
end_added names p depth from n old new low none e ends h = e ∙ lone_line old (line_text p.roles (at depth all_end))
end_added names p depth from n old new low none e (again name) h = let k : n < from = h.0 in absurd (omega arith)
end_added names p depth from n old new low none e (binds name body) h = absurd (no_head names p n body none h.3)
end_added names p depth from n old new low none e (acts s t label sort body) h = absurd (no_head names p n (acts s t label sort body) none h.2)
end_added names p depth from n old new low none e (offers s t arms) h = absurd (no_head names p n (offers s t arms) none h.2)

-- a talk is drawn whole from each place before it
pub whole_added : (names : Names_data) (p : Protocol_data) (depth from n : ℕ) (old new : List ℕ) → from ≤ n → AddsPlace names p depth n n old new → AddsPlace names p depth from n old new
whole_added names p depth from n old new low adds ends h = adds ends h
whole_added names p depth from n old new low adds (again name) h = let k : n < from = h.0 in absurd (omega arith)
whole_added names p depth from n old new low adds (binds name body) h = adds (binds name body) (omega arith, h.1, h.2, h.3)
whole_added names p depth from n old new low adds (acts s t label sort body) h = adds (acts s t label sort body) (omega arith, h.1, h.2)
whole_added names p depth from n old new low adds (offers s t arms) h = adds (offers s t arms) (omega arith, h.1, h.2)

-- ---- a loop

pub plain_added : (names : Names_data) (p : Protocol_data) (depth n : ℕ) (s r : Role) (arms : List Arm) (old new : List ℕ) → leads_from (places_of_protocol p) n n ≡ false
    → slice_get p.nodes n ≡ Some (Talk s r arms) → AddsTalk names p depth n old new → AddsPlace names p depth n n old new
plain_added names p depth n s r arms old new flag e adds ends h = absurd (no_end p n s r arms e h)
plain_added names p depth n s r arms old new flag e adds (again name) h = let k : n < n = h.0 in absurd (omega arith)
plain_added names p depth n s r arms old new flag e adds (binds name body) h = absurd (not_back (places_of_protocol p) n flag h.2)
plain_added names p depth n s r arms old new flag e adds (acts q t label sort body) h = adds (acts q t label sort body) h.2
plain_added names p depth n s r arms old new flag e adds (offers q t branches) h = adds (offers q t branches) h.2

pub loop_added : (names : Names_data) (p : Protocol_data) (depth n : ℕ) (s r : Role) (arms : List Arm) (old begun body_behind new : List ℕ) → leads_from (places_of_protocol p) n n ≡ true
    → slice_get p.nodes n ≡ Some (Talk s r arms) → begun ≡ old ++ line_text p.roles (at depth (begins_loop (name_of_place n))) → AddsTalk names p (depth + 1) n begun body_behind
    → new ≡ body_behind ++ line_text p.roles (at depth closes) → AddsPlace names p depth n n old new
loop_added names p depth n s r arms old begun within new flag e b adds c ends h = absurd (no_end p n s r arms e h)
loop_added names p depth n s r arms old begun within new flag e b adds c (again name) h = let k : n < n = h.0 in absurd (omega arith)
loop_added names p depth n s r arms old begun within new flag e b adds c (binds name body) h =
    rw h.1 (two_texts old (line_text p.roles (at depth (begins_loop (name_of_place n)))) (lines_text p.roles (body_lines names (depth + 1) body ++ at depth closes ∷ [])) begun new b
    (one_behind p.roles begun within new (body_lines names (depth + 1) body) (at depth closes) (adds body h.3) c))
loop_added names p depth n s r arms old begun within new flag e b adds c (acts q t label sort body) h = absurd (h.1 (back_is (places_of_protocol p) n flag))
loop_added names p depth n s r arms old begun within new flag e b adds c (offers q t branches) h = absurd (h.1 (back_is (places_of_protocol p) n flag))

-- ---- a talk

one_is : (a b : Arm) → (a ∷ []) ≡ (b ∷ []) → a ≡ b
one_is a b h = cc

pub one_added : (names : Names_data) (p : Protocol_data) (depth n : ℕ) (s r : Role) (arm : Arm) (old mid new : List ℕ) → IsSound names → slice_get p.nodes n ≡ Some (Talk s r (arm ∷ []))
    → mid ≡ old ++ line_text p.roles (at depth (message s r (name_at names.labels arm.label.0) (shown_sort arm.sort))) → AddsPlace names p depth (n + 1) arm.next mid new
    → AddsTalk names p depth n old new
one_added names p depth n s r arm old mid new sound e m adds ends h = absurd h
one_added names p depth n s r arm old mid new sound e m adds (again name) h = absurd h
one_added names p depth n s r arm old mid new sound e m adds (binds name body) h = absurd h
one_added names p depth n s r arm old mid new sound e m adds (acts q t label sort body) h =
    let is = talk_is p n s r (arm ∷ []) (h.0 ∷ []) h.1.head e h.1.stands in
    let same : h.0 ≡ arm = one_is h.0 arm is.1 in
    let named : IsHeadOf Talks names (head.Talk s r) q t = subst (λ (z : Head). IsHeadOf Talks names z q t) is.0 h.1.named in
    let armed : IsArmOf names label sort arm = subst (λ (z : Arm). IsArmOf names label sort z) same h.2 in
    let drawn : Draws Talks names (places_of_protocol p) (n + 1) arm.next body = subst (λ (z : Arm). Draws Talks names (places_of_protocol p) (n + 1) z.next body) same h.3 in
    rw (message_is names s r arm q t label sort sound named armed)
    (two_texts old (line_text p.roles (at depth (message s r (name_at names.labels arm.label.0) (shown_sort arm.sort)))) (lines_text p.roles (body_lines names depth body)) mid new m (adds body drawn))
one_added names p depth n s r arm old mid new sound e m adds (offers q t branches) h =
    absurd (let same : (h.0 ∷ h.1 ∷ h.2) ≡ (arm ∷ []) = (talk_is p n s r (arm ∷ []) (h.0 ∷ h.1 ∷ h.2) h.3.head e h.3.stands).1 in cc)

pub choice_added : (names : Names_data) (p : Protocol_data) (depth n : ℕ) (s r : Role) (arms : List Arm) (old mid new : List ℕ) → ((a : Arm) → arms ≡ a ∷ [] → ⊥)
    → slice_get p.nodes n ≡ Some (Talk s r arms) → AddsCases names p depth (n + 1) s r true arms old mid → new ≡ mid ++ line_text p.roles (at depth closes) → AddsTalk names p depth n old new
choice_added names p depth n s r arms old mid new several e adds c ends h = absurd h
choice_added names p depth n s r arms old mid new several e adds c (again name) h = absurd h
choice_added names p depth n s r arms old mid new several e adds c (binds name body) h = absurd h
choice_added names p depth n s r arms old mid new several e adds c (acts q t label sort body) h =
    absurd (several h.0 (sym (talk_is p n s r arms (h.0 ∷ []) h.1.head e h.1.stands).1))
choice_added names p depth n s r arms old mid new several e adds c (offers q t branches) h =
    let is = talk_is p n s r arms (h.0 ∷ h.1 ∷ h.2) h.3.head e h.3.stands in
    let named : IsHeadOf Talks names (head.Talk s r) q t = subst (λ (z : Head). IsHeadOf Talks names z q t) is.0 h.3.named in
    let ours : AddsCases names p depth (n + 1) s r true (h.0 ∷ h.1 ∷ h.2) old mid = subst (λ (z : List Arm). AddsCases names p depth (n + 1) s r true z old mid) (sym is.1) adds in
    one_behind p.roles old mid new (case_lines names depth q t (case_of true) branches) (at depth closes) (ours q t branches named h.4) c

-- ---- alternatives

three_texts : (old a b x begun said new : List ℕ) → begun ≡ old ++ a → said ≡ begun ++ b → new ≡ said ++ x → new ≡ old ++ (a ++ (b ++ x))
three_texts old a b x begun said new h k l = two_texts old a (b ++ x) begun new h (two_texts begun b x said new k l)

pub cases_added : (later : List Arm) (names : Names_data) (p : Protocol_data) (depth from : ℕ) (s r : Role) (first : Bool) (arm : Arm) (old begun said drawn new : List ℕ) → IsSound names
    → begun ≡ old ++ line_text p.roles (at depth (case_of first (name_at names.labels arm.label.0)))
    → said ≡ begun ++ line_text p.roles (at (depth + 1) (message s r (name_at names.labels arm.label.0) (shown_sort arm.sort))) → AddsPlace names p (depth + 1) from arm.next said drawn
    → AddsCases names p depth from s r false later drawn new → AddsCases names p depth from s r first (arm ∷ later) old new
cases_added [] names p depth from s r first arm old begun said drawn new sound b m adds rest q t (one label sort body) named h =
    rw (message_is names s r arm q t label sort sound named h.0, sym (label_is names arm label sort h.0))
    (three_texts old (line_text p.roles (at depth (case_of first (name_at names.labels arm.label.0))))
    (line_text p.roles (at (depth + 1) (message s r (name_at names.labels arm.label.0) (shown_sort arm.sort)))) (lines_text p.roles (body_lines names (depth + 1) body)) begun said new b m
    (rest ∙ adds body h.1))
cases_added [] names p depth from s r first arm old begun said drawn new sound b m adds rest q t (more label sort body (one _ _ _)) named h = absurd h.2
cases_added [] names p depth from s r first arm old begun said drawn new sound b m adds rest q t (more label sort body (more _ _ _ _)) named h = absurd h.2
cases_added (x ∷ later) names p depth from s r first arm old begun said drawn new sound b m adds rest q t (one label sort body) named h = absurd h
cases_added (x ∷ later) names p depth from s r first arm old begun said drawn new sound b m adds rest q t (more label sort body arms) named h =
    rw (message_is names s r arm q t label sort sound named h.0, sym (label_is names arm label sort h.0))
    (three_texts old (line_text p.roles (at depth (case_of first (name_at names.labels arm.label.0))))
    (line_text p.roles (at (depth + 1) (message s r (name_at names.labels arm.label.0) (shown_sort arm.sort))))
    (lines_text p.roles (body_lines names (depth + 1) body ++ case_lines names depth q t (case_of false) arms)) begun said new b m
    (two_texts said (lines_text p.roles (body_lines names (depth + 1) body)) (lines_text p.roles (case_lines names depth q t (case_of false) arms)) drawn new (adds body h.1) (rest q t arms named h.2)
    ∙ ap (λ z. said ++ z) (sym (flat_map-append (line_text p.roles) (body_lines names (depth + 1) body) (case_lines names depth q t (case_of false) arms)))))

pub cases_behind : (arms later : List Arm) (names : Names_data) (p : Protocol_data) (depth from : ℕ) (s r : Role) (first : Bool) (arm : Arm) (old begun said drawn new : List ℕ) → IsSound names
    → arms ≡ arm ∷ later → begun ≡ old ++ line_text p.roles (at depth (case_of first (name_at names.labels arm.label.0)))
    → said ≡ begun ++ line_text p.roles (at (depth + 1) (message s r (name_at names.labels arm.label.0) (shown_sort arm.sort))) → AddsPlace names p (depth + 1) from arm.next said drawn
    → AddsCases names p depth from s r false later drawn new → AddsCases names p depth from s r first arms old new
cases_behind arms later names p depth from s r first arm old begun said drawn new sound is b m adds rest =
    subst (λ (z : List Arm). AddsCases names p depth from s r first z old new) (sym is) (cases_added later names p depth from s r first arm old begun said drawn new sound b m adds rest)

pub only_added : (names : Names_data) (p : Protocol_data) (depth n : ℕ) (s r : Role) (arms : List Arm) (arm : Arm) (old mid new : List ℕ) → IsSound names → slice_get p.nodes n ≡ Some (Talk s r arms)
    → arms ≡ arm ∷ [] → mid ≡ old ++ line_text p.roles (at depth (message s r (name_at names.labels arm.label.0) (shown_sort arm.sort))) → AddsPlace names p depth (n + 1) arm.next mid new
    → AddsTalk names p depth n old new
only_added names p depth n s r arms arm old mid new sound e is = one_added names p depth n s r arm old mid new sound (e ∙ ap (λ z. Some (Talk s r z)) is)

-- ---- the whole picture

text_is : (head whole parts lines begun listed new : List ℕ) → begun ≡ head → listed ≡ begun ++ parts → new ≡ listed ++ lines → whole ≡ head ++ (parts ++ lines) → new ≡ whole
text_is head whole parts lines begun listed new b l n w = n ∙ ap (λ z. z ++ lines) (l ∙ ap (λ z. z ++ parts) b) ∙ append_assoc head parts lines ∙ sym w

pub picture_is : (names : Names_data) (p : Protocol_data) (root : ℕ) (roles : List (List ℕ)) (tree : ProtocolTree) (begun listed new : List ℕ) → begun ≡ codes "sequenceDiagram\n"
    → roles ≡ names.roles → listed ≡ begun ++ participants_text 0 roles → root ≡ p.root → length names.roles ≡ p.roles → AddsPlace names p 1 0 root listed new
    → Draws Talks names (places_of_protocol p) 0 p.root tree.body → new ≡ sequence_text names tree
picture_is names p root roles tree begun listed new b same l at_root count adds draws =
    text_is (codes "sequenceDiagram\n") (sequence_text names tree) (participants_text 0 names.roles) (lines_text (length names.roles) (body_lines names 1 tree.body)) begun listed new b
    (l ∙ ap (λ z. begun ++ participants_text 0 z) same)
    (adds tree.body (subst (λ (z : ℕ). Draws Talks names (places_of_protocol p) 0 z tree.body) (sym at_root) draws) ∙ ap (λ z. listed ++ lines_text z (body_lines names 1 tree.body)) (sym count)) refl

pub not_only : (arms : List Arm) → (length arms ≡ 1 → ⊥) → (a : Arm) → arms ≡ a ∷ [] → ⊥
not_only arms h a e = h (ap length e)
