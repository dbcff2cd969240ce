-- At every place of the grammar that stands behind the tokens read so far, the reader wants what the place wants and sees its faults.
use Rattle.std.proofs.Common.{◌≡◌, ℕ, suc, ◌+◌, List, [], ◌∷◌, ◌++◌, length, codes, Bool, true, false, if◌then◌else◌, nat_le, Option, Some, None, Ok, refl, sym, ap, ◌∙◌, subst, append-nil}
use Rattle.rs_model.specs.declared.graph.Role.{Role}
use Rattle.rs_model.specs.declared.graph.Label.{Label}
use Rattle.rs_model.specs.declared.values.Sort.{Sort}
use Rattle.rs_text.specs.declared.faults.TextKind.{TextKind}
use Rattle.rs_text.specs.declared.faults.TextKind.TheVariants as kind
use Rattle.std.specs.List.{flat_map}
use Rattle.std.proofs.Common.{append_assoc}
use Rattle.rs_bodies.specs.declared.reading.Frame.{Frame}
use Rattle.rs_bodies.specs.declared.reading.Link.{Link}
use Rattle.rs_bodies.specs.declared.reading.Link.TheVariants as link
use Rattle.rs_bodies.specs.declared.reading.Mode.{Mode}
use Rattle.rs_bodies.specs.declared.reading.Mode.TheVariants as mode
use Rattle.rs_model.specs.Data.{Names_data}
use Rattle.rs_bodies.specs.declared.dialects.Dialect.{Dialect}
use Rattle.rs_bodies.specs.declared.dialects.Dialect.TheVariants.{Talks, Acts}
use Rattle.rs_text.specs.declared.faults.Wanted.{Wanted}
use Rattle.rs_text.specs.declared.faults.Wanted.TheVariants as wanted
use Rattle.rs_text.specs.Names.{place_of, is_among, names_with, BoundNames, nearest_binding}
use Rattle.rs_text.specs.Signs.{Sign, arrow, rec_word, end_word, plain, colon, dot, comma, open_brace, close_brace, open_paren, close_paren, broken, finish}
use Rattle.rs_text.specs.Arms.{sort_text, sort_signs, arm_signs}
use Rattle.rs_text.specs.ArmCuts.{ArmCut, at_label, behind_label, behind_paren, behind_sort, behind_head, arm_cut_signs, wanted_in_arm}
use Rattle.rs_text.specs.Seen.{sort_named}
use Rattle.rs_bodies.specs.Data.{Reader_data}
use Rattle.rs_bodies.specs.Graph.{acts_in}
use Rattle.rs_bodies.specs.Dialects.{lone_signs, turns, most}
use Rattle.rs_bodies.specs.Cuts.{TurnCut, behind_arrow, behind_receiver, wanted_alone}
use Rattle.rs_bodies.specs.Openings.{Opening, of_roles, of_role, further_signs, line_signs, opening_signs, roles_in}
use Rattle.rs_bodies.specs.Cuts.{OpeningCut, at_roles, at_first, behind_first, at_further, behind_further, at_machine, at_role, behind_role, opening_cut_signs}
use Rattle.rs_bodies.specs.Spells.{Tree, tree_signs}
use Rattle.rs_bodies.specs.Feeding.{Fed, start_of_part, feed_word, reader_at_head, reader_in_braces, feed_head_role, feed_bound_name, new_role, role_by, in_message, feeding}
use Rattle.rs_text.specs.Readings.{fault}
use Rattle.rs_bodies.specs.Trees.{body_signs, branch_signs, ends_a_name}
use Rattle.rs_bodies.specs.Cuts.{Cut, at_body, behind_end, behind_name, behind_rec, behind_rec_name, in_binds, in_arm, in_acts, in_offers, behind_brace, BranchCut, in_head, in_branch, later, in_turn}
use Rattle.rs_bodies.specs.Cuts.{PartCut, in_opening, in_body, cut_signs, branch_cut_signs, part_cut_signs, wanted_at, wanted_in}
use Rattle.rs_bodies.specs.Scenes.{Scene, with_label, in_act, behind}
use Rattle.rs_bodies.specs.Misplaced.{scene_at, scene_in, fault_of_depth, fault_of_label, fault_by, fault_of, fault_of_new_role, fault_of_role}
use Rattle.rs_text.proofs.Leading.{Lands, Leads, lands_if, NotExpected, faulty_calm}
use Rattle.rs_text.proofs.MessageLaws.{sort_seen}
use Rattle.rs_text.specs.Messages.{feed_sort_word}
use Rattle.rs_text.specs.declared.messages.MessagePlace.TheVariants as place
use Rattle.rs_bodies.proofs.FaultRuns.{met_lands, received_lands, head_lands, lone_leads, sort_leads, Follower, a_turn, a_broken, a_name, follower, by_name, named_lands, placed_length, label_lands}
use Rattle.rs_bodies.proofs.FaultRuns.{arm_passes, frame_at, restored_bound, passes, branches_pass}

-- what a mode wants; a machine's first word is wanted as `DerivationOrEnd` here, so that it differs from what is wanted behind a part
abbrev pub wanted_behind : List Frame → Wanted
wanted_behind [] = wanted.PartOrEnd
wanted_behind (f ∷ fs) = wanted.CommaOrCloseBrace

abbrev pub wanted_behind_head : Dialect → Wanted
wanted_behind_head Talks = wanted.ColonOrBrace
wanted_behind_head Acts = wanted.LabelOrBrace

abbrev pub wanted_by : (dia : Dialect) → Mode → List Frame → Wanted
wanted_by dia mode.Roles fs = wanted.Roles
wanted_by dia mode.FirstRole fs = wanted.Role
wanted_by dia mode.FirstComma fs = wanted.Comma
wanted_by dia mode.FurtherRole fs = wanted.Role
wanted_by dia mode.Line fs = wanted.CommaOrProtocol
wanted_by dia mode.Machine fs = wanted.DerivationOrEnd
wanted_by dia mode.AtRole fs = wanted.Role
wanted_by dia mode.AtColon fs = wanted.Colon
wanted_by dia (mode.Body from) fs = wanted.Body
wanted_by dia (mode.RecName from) fs = wanted.Name
wanted_by dia (mode.RecDot from) fs = wanted.Dot
wanted_by dia (mode.AtTurn from p) fs = wanted_behind fs
wanted_by dia (mode.Receiver from p) fs = wanted.Role
wanted_by dia (mode.AtArms act) fs = wanted_behind_head dia
wanted_by dia (mode.InMessage act place.Label) fs = wanted.Label
wanted_by dia (mode.InMessage act (place.Paren label)) fs = wanted.OpenParen
wanted_by dia (mode.InMessage act (place.Sort label)) fs = wanted.SortOrCloseParen
wanted_by dia (mode.InMessage act (place.Close label s)) fs = wanted.CloseParen
wanted_by dia (mode.ArmDot act label s) fs = wanted.Dot
wanted_by dia mode.Next fs = wanted_behind fs

abbrev pub scene_of : Reader_data → Scene
scene_of r = record { roles = r.roles; bound = r.bound; depth = r.depth; acts = length r.drafts; labels = r.labels }

-- the faults of names and limits that a mode sees
abbrev pub fault_in_line : Sign → List (List ℕ) → Option TextKind
fault_in_line (plain word) roles = fault_of_new_role word roles
fault_in_line _ roles = None

abbrev pub fault_seen : (dia : Dialect) → Mode → Sign → Sign → Reader_data → Option TextKind
fault_seen dia mode.FirstRole t n r = fault_in_line t r.roles
fault_seen dia mode.FurtherRole t n r = fault_in_line t r.roles
fault_seen dia mode.AtRole t n r = fault_by dia wanted.Role t n (scene_of r)
fault_seen dia (mode.Body from) t n r = fault_by dia wanted.Body t n (scene_of r)
fault_seen dia (mode.Receiver from p) t n r = fault_by dia wanted.Role t n (scene_of r)
fault_seen dia (mode.AtArms act) t n r = fault_by dia (wanted_behind_head dia) t n (scene_of r)
fault_seen dia (mode.InMessage act place.Label) t n r = fault_by dia wanted.Label t n (scene_of r)
fault_seen dia _ t n r = None

-- the place is behind a word that began a body
abbrev mutual
  pub is_named : (dia : Dialect) → Cut dia → Bool
  is_named dia (behind_name n) = true
  is_named dia (in_binds n b) = is_named dia b
  is_named dia (in_acts x y l s b) = is_named dia b
  is_named dia (in_offers x y arms) = is_named_in dia arms
  is_named dia _ = false

  pub is_named_in : (dia : Dialect) → BranchCut dia → Bool
  is_named_in dia (in_head arm) = false
  is_named_in dia (in_branch l s b) = is_named dia b
  is_named_in dia (later l s b arms) = is_named_in dia arms

abbrev pub is_named_of : (dia : Dialect) → PartCut dia → Bool
is_named_of dia (in_body x body) = is_named dia body
is_named_of dia _ = false

-- an arrow or a mark was seen behind a word, a word that is a name has none behind it, and there is room for a head that is begun
abbrev pub NamedBy : (dia : Dialect) → Mode → Sign → Bool → Reader_data → Type 0
NamedBy dia (mode.AtTurn from p) u b d = (turns dia u ≡ true) × (b ≡ true) × (nat_le (most dia) (length d.drafts) ≡ false)
NamedBy dia (mode.Receiver from p) u b d = nat_le (most dia) (length d.drafts) ≡ false
NamedBy dia mode.Next u b d = b ≡ true → ends_a_name dia u ≡ true
NamedBy dia _ u b d = Unit {0}

-- what is wanted at a place, its first word apart
abbrev pub opening_wants : (o : Dialect) → OpeningCut o → Wanted
opening_wants Talks at_roles = wanted.Roles
opening_wants Talks at_first = wanted.Role
opening_wants Talks (behind_first x) = wanted.Comma
opening_wants Talks (at_further x xs) = wanted.Role
opening_wants Talks (behind_further x y xs) = wanted.CommaOrProtocol
opening_wants Acts at_machine = wanted.DerivationOrEnd
opening_wants Acts at_role = wanted.Role
opening_wants Acts (behind_role x) = wanted.Colon

abbrev pub place_wants : (dia : Dialect) → PartCut dia → Wanted
place_wants dia (in_opening x) = opening_wants dia x
place_wants dia (in_body x body) = wanted_at dia body wanted.PartOrEnd

-- the reader stands at a place with this wanted text and these faults; u is the token there
pub record Agrees (dia : Dialect) (w : Wanted) (fault : Sign → Sign → Option TextKind) (is_name : Bool) (u : Sign) (d : Reader_data) : Type 0 where
  pub wanted : wanted_by dia d.mode d.frames ≡ w
  pub faults : (t n : Sign) → fault t n ≡ fault_seen dia d.mode t n d
  pub named : NamedBy dia d.mode u is_name d

abbrev pub CutAgrees : (dia : Dialect) → Cut dia → Wanted → Scene → Sign → Reader_data → Type 0
CutAgrees dia c w s u d = Agrees dia (wanted_at dia c w) (λ t n. fault_by dia (wanted_at dia c w) t n (scene_at dia c s)) (is_named dia c) u d

abbrev pub BranchAgrees : (dia : Dialect) → BranchCut dia → Scene → Sign → Reader_data → Type 0
BranchAgrees dia a s u d = Agrees dia (wanted_in dia a) (λ t n. fault_by dia (wanted_in dia a) t n (scene_in dia a s)) (is_named_in dia a) u d

abbrev pub ArmAgrees : (dia : Dialect) → ArmCut → Scene → Sign → Reader_data → Type 0
ArmAgrees dia a s u d = Agrees dia (wanted_in_arm a) (λ t n. fault_by dia (wanted_in_arm a) t n s) false u d

abbrev pub LoneAgrees : (dia : Dialect) → ArmCut → Scene → Sign → Reader_data → Type 0
LoneAgrees dia a s u d = Agrees dia (wanted_alone dia a) (λ t n. fault_by dia (wanted_alone dia a) t n s) false u d

abbrev pub PlaceAgrees : (dia : Dialect) → Names_data → PartCut dia → Sign → Reader_data → Type 0
PlaceAgrees dia old c u d = Agrees dia (place_wants dia c) (λ t n. fault_of dia old c t n) (is_named_of dia c) u d

none_behind : (dia : Dialect) (fs : List Frame) (t n : Sign) (s : Scene) → fault_by dia (wanted_behind fs) t n s ≡ None
none_behind dia [] t n s = refl
none_behind dia (f ∷ fs) t n s = refl

depth_same : (s o : Scene) → s.depth ≡ o.depth → fault_of_depth s ≡ fault_of_depth o
depth_same s o e = ap (λ z. if nat_le 200 z then Some kind.TooDeep else None) e

word_same : (l : List ℕ) (s o : Scene) → s.labels ≡ o.labels → fault_of_label l s ≡ fault_of_label l o
word_same l s o e = ap (λ z. if is_among l z then None else if nat_le 256 (length z) then Some kind.TooManyLabels else None) e

label_same : (dia : Dialect) (t n : Sign) (s o : Scene) → s.labels ≡ o.labels → fault_by dia wanted.Label t n s ≡ fault_by dia wanted.Label t n o
label_same dia rec_word n s o e = word_same (codes "rec") s o e
label_same dia end_word n s o e = word_same (codes "end") s o e
label_same dia (plain l) n s o e = word_same l s o e
label_same dia _ n s o e = refl

colon_same : (t n : Sign) (s o : Scene) → s.depth ≡ o.depth → fault_by Talks wanted.ColonOrBrace t n s ≡ fault_by Talks wanted.ColonOrBrace t n o
colon_same open_brace n s o f = depth_same s o f
colon_same _ n s o f = refl

brace_same : (t n : Sign) (s o : Scene) → s.labels ≡ o.labels → s.depth ≡ o.depth → fault_by Acts wanted.LabelOrBrace t n s ≡ fault_by Acts wanted.LabelOrBrace t n o
brace_same open_brace n s o e f = depth_same s o f
brace_same rec_word n s o e f = word_same (codes "rec") s o e
brace_same end_word n s o e f = word_same (codes "end") s o e
brace_same (plain l) n s o e f = word_same l s o e
brace_same _ n s o e f = refl

sorted_lands : (s : Sort) (act : ℕ) (label : Label) (at : ℕ) (r : Reader_data) (Q : Reader_data → Type 0) → Q (record r { mode = mode.InMessage act (place.Close label s) })
    → Lands (in_message act (feed_sort_word (sort_named (sort_text s)) label at r.labels) r) Q
sorted_lands s act label at r Q h = subst (λ (o : Option Sort). Lands (in_message act (feed_sort_word o label at r.labels) r) Q) (sym (sort_seen s)) h

arm_cut_passes : (dia : Dialect) (arm : ArmCut) (act : ℕ) (r : Reader_data) (s : Scene) (u : Sign) → s.labels ≡ r.labels
    → Leads (feeding dia) (arm_cut_signs arm) u (ArmAgrees dia arm s u) (record r { mode = mode.InMessage act place.Label })
arm_cut_passes dia at_label act r s u e = record { wanted = refl; faults = λ t n. label_same dia t n s (scene_of r) e; named = tt }
arm_cut_passes dia (behind_label l) act r s u e = λ a f n. label_lands dia l act a _ r (λ d. ArmAgrees dia (behind_label l) s u d) (λ k. record { wanted = refl; faults = λ t n. refl; named = tt })
arm_cut_passes dia (behind_paren l) act r s u e =
    λ a f n. label_lands dia l act a _ r (λ d. Leads (feeding dia) (open_paren ∷ []) u (ArmAgrees dia (behind_paren l) s u) d)
    (λ k. λ a f n. record { wanted = refl; faults = λ t n. refl; named = tt })
arm_cut_passes dia (behind_sort l x) act r s u e = λ a f n. label_lands dia l act a _ r (λ d. Leads (feeding dia) (open_paren ∷ plain (sort_text x) ∷ []) u (ArmAgrees dia (behind_sort l x) s u) d)
    (λ k. λ a f n. λ a f n. sorted_lands x act k a (record r { labels = names_with r.labels (l ∷ []); mode = mode.InMessage act (place.Sort k) }) (ArmAgrees dia (behind_sort l x) s u)
    (record { wanted = refl; faults = λ t n. refl; named = tt }))
arm_cut_passes dia (behind_head l x) act r s u e =
    λ a f n. label_lands dia l act a _ r (λ d. Leads (feeding dia) (open_paren ∷ (sort_signs x ++ close_paren ∷ [])) u (ArmAgrees dia (behind_head l x) s u) d)
    (λ k. sort_leads dia NotExpected x act k (record r { labels = names_with r.labels (l ∷ []) }) [] u (ArmAgrees dia (behind_head l x) s u)
    (record { wanted = refl; faults = λ t n. refl; named = tt }))

first_label : (dia : Dialect) (act : ℕ) (r : Reader_data) (s : Scene) (u : Sign) → s.labels ≡ r.labels → s.depth ≡ r.depth
    → Leads (feeding dia) (lone_signs dia ++ []) u (LoneAgrees dia at_label s u) (record r { mode = mode.AtArms act })
first_label Talks act r s u e f = λ a g n. arm_cut_passes Talks at_label act r s u e
first_label Acts act r s u e f = record { wanted = refl; faults = λ t n. brace_same t n s (scene_of r) e f; named = tt }

lone_cut_passes : (dia : Dialect) (arm : ArmCut) (act : ℕ) (r : Reader_data) (s : Scene) (u : Sign) → s.labels ≡ r.labels → s.depth ≡ r.depth
    → Leads (feeding dia) (lone_signs dia ++ arm_cut_signs arm) u (LoneAgrees dia arm s u) (record r { mode = mode.AtArms act })
lone_cut_passes dia at_label act r s u e f = first_label dia act r s u e f
lone_cut_passes dia (behind_label l) act r s u e f = lone_leads dia NotExpected act l [] r u (LoneAgrees dia (behind_label l) s u) (arm_cut_passes dia (behind_label l) act r s u e)
lone_cut_passes dia (behind_paren l) act r s u e f = lone_leads dia NotExpected act l (open_paren ∷ []) r u (LoneAgrees dia (behind_paren l) s u) (arm_cut_passes dia (behind_paren l) act r s u e)
lone_cut_passes dia (behind_sort l x) act r s u e f =
    lone_leads dia NotExpected act l (open_paren ∷ plain (sort_text x) ∷ []) r u (LoneAgrees dia (behind_sort l x) s u) (arm_cut_passes dia (behind_sort l x) act r s u e)
lone_cut_passes dia (behind_head l x) act r s u e f =
    lone_leads dia NotExpected act l (open_paren ∷ (sort_signs x ++ close_paren ∷ [])) r u (LoneAgrees dia (behind_head l x) s u) (arm_cut_passes dia (behind_head l x) act r s u e)

-- within a head
turn_cut_passes : (dia : Dialect) (t : TurnCut dia) (x : List ℕ) (from : Link) (r : Reader_data) (w : Wanted) (u : Sign)
    → Leads (feeding dia) (cut_signs dia (in_turn x t)) u (CutAgrees dia (in_turn x t) w (scene_of r) u) (record r { mode = mode.Body from })
turn_cut_passes Talks behind_arrow x from r w u =
    λ a f n. met_lands Talks (place_of x r.roles) from a (record r { mode = mode.Body from }) (λ d. Leads (feeding Talks) (arrow ∷ []) u (CutAgrees Talks (in_turn x behind_arrow) w (scene_of r) u) d)
    (λ p room. λ a f n. record { wanted = refl; faults = λ t n. refl; named = room })
turn_cut_passes Talks (behind_receiver y) x from r w u =
    λ a f n. met_lands Talks (place_of x r.roles) from a (record r { mode = mode.Body from })
    (λ d. Leads (feeding Talks) (arrow ∷ plain y ∷ []) u (CutAgrees Talks (in_turn x (behind_receiver y)) w (scene_of r) u) d)
    (λ p room. λ a f n. λ a f n. received_lands (place_of y r.roles) from p a (record r { mode = mode.Receiver from p }) (CutAgrees Talks (in_turn x (behind_receiver y)) w (scene_of r) u)
    (λ h. record { wanted = refl; faults = λ t n. colon_same t n (scene_of r) (scene_of (reader_at_head from h r)) refl; named = tt }))
turn_cut_passes Acts t x from r w u = elim t [ ]

pub by_turn : (dia : Dialect) (v : Sign) (from : Link) (word : List ℕ) (at next : ℕ) (r : Reader_data) → turns dia v ≡ true
    → feed_word dia from word v at next r ≡ feed_head_role dia (place_of word r.roles) from at r
by_turn dia (broken k) from word at next r h = cc
by_turn dia v from word at next r h = ap (λ z. if z then feed_head_role dia (place_of word r.roles) from at r else feed_bound_name (nearest_binding word r.bound) from at r) h

word_agrees : (dia : Dialect) (u : Sign) (f : Follower dia u) (name : List ℕ) (from : Link) (at next : ℕ) (r : Reader_data) (s : Scene)
    → Lands (feed_word dia from name u at next (record r { mode = mode.Body from })) (CutAgrees dia (behind_name name) (wanted_behind r.frames) s u)
word_agrees dia _ (a_turn v e) name from at next r s =
    subst (λ (x : Fed). Lands x (CutAgrees dia (behind_name name) (wanted_behind r.frames) s v)) (sym (by_turn dia v from name at next (record r { mode = mode.Body from }) e))
    (met_lands dia (place_of name r.roles) from at (record r { mode = mode.Body from }) (CutAgrees dia (behind_name name) (wanted_behind r.frames) s v)
    (λ p room. record { wanted = refl; faults = λ t n. none_behind dia r.frames t n s; named = (e, refl, room) }))
word_agrees dia _ (a_broken k) name from at next r s = faulty_calm k
word_agrees dia _ (a_name v e) name from at next r s =
    subst (λ (x : Fed). Lands x (CutAgrees dia (behind_name name) (wanted_behind r.frames) s v)) (sym (by_name dia v from name at next (record r { mode = mode.Body from }) e))
    (named_lands (nearest_binding name r.bound) from at (record r { mode = mode.Body from }) (CutAgrees dia (behind_name name) (wanted_behind r.frames) s v)
    (λ k. record { wanted = refl; faults = λ t n. none_behind dia r.frames t n s; named = λ h. e }))

mutual
  pub cut_passes : (dia : Dialect) (c : Cut dia) (from : Link) (r : Reader_data) (u : Sign)
      → Leads (feeding dia) (cut_signs dia c) u (CutAgrees dia c (wanted_behind r.frames) (scene_of r) u) (record r { mode = mode.Body from })
  cut_passes dia at_body from r u = record { wanted = refl; faults = λ t n. refl; named = tt }
  cut_passes dia behind_end from r u = λ a f n. record { wanted = refl; faults = λ t n. none_behind dia r.frames t n (scene_of r); named = λ h. cc }
  cut_passes dia (behind_name name) from r u = λ a f n. word_agrees dia u (follower dia u) name from a f r (scene_of r)
  cut_passes dia behind_rec from r u =
      λ a f n. lands_if (nat_le 200 r.depth) kind.TooDeep a (Ok (record r { depth = suc r.depth; mode = mode.RecName from })) (CutAgrees dia behind_rec (wanted_behind r.frames) (scene_of r) u) tt
      (record { wanted = refl; faults = λ t n. refl; named = tt })
  cut_passes dia (behind_rec_name name) from r u =
      λ a f n. lands_if (nat_le 200 r.depth) kind.TooDeep a (Ok (record r { depth = suc r.depth; mode = mode.RecName from }))
      (λ d. Leads (feeding dia) (plain name ∷ []) u (CutAgrees dia (behind_rec_name name) (wanted_behind r.frames) (scene_of r) u) d) tt
      (λ a f n. record { wanted = refl; faults = λ t n. refl; named = tt })
  cut_passes dia (in_binds name b) from r u =
      λ a f n. lands_if (nat_le 200 r.depth) kind.TooDeep a (Ok (record r { depth = suc r.depth; mode = mode.RecName from }))
      (λ d. Leads (feeding dia) (plain name ∷ dot ∷ cut_signs dia b) u (CutAgrees dia (in_binds name b) (wanted_behind r.frames) (scene_of r) u) d) tt
      (λ a f n. λ a f n. cut_passes dia b from (record r { depth = suc r.depth; bound = (name, length r.drafts) ∷ r.bound }) u)
  cut_passes dia (in_turn x t) from r u = turn_cut_passes dia t x from r (wanted_behind r.frames) u
  cut_passes dia (in_arm x y arm) from r u = head_lands dia y x from r (lone_signs dia ++ arm_cut_signs arm) u (CutAgrees dia (in_arm x y arm) (wanted_behind r.frames) (scene_of r) u)
      (λ q. lone_cut_passes dia arm (length r.drafts) (reader_at_head from q r) (in_act (scene_of r)) u refl refl)
  cut_passes dia (in_acts x y l s b) from r u =
      head_lands dia y x from r (lone_signs dia ++ (arm_signs l s ++ cut_signs dia b)) u (CutAgrees dia (in_acts x y l s b) (wanted_behind r.frames) (scene_of r) u)
      (λ q. let p : Reader_data = reader_at_head from q r in
      lone_leads dia NotExpected (length r.drafts) l (open_paren ∷ ((sort_signs s ++ close_paren ∷ dot ∷ []) ++ cut_signs dia b)) p u
      (CutAgrees dia (in_acts x y l s b) (wanted_behind r.frames) (scene_of r) u)
      (arm_passes dia l s (length r.drafts) p (cut_signs dia b) u (CutAgrees dia (in_acts x y l s b) (wanted_behind r.frames) (scene_of r) u)
      (λ label sort. subst (λ (z : ℕ). Leads (feeding dia) (cut_signs dia b) u
      (CutAgrees dia b (wanted_behind r.frames) (record { roles = r.roles; bound = r.bound; depth = r.depth; acts = z; labels = names_with r.labels (l ∷ []) }) u)
      (record p { labels = names_with r.labels (l ∷ []); mode = mode.Body (link.OfArm (length r.drafts) label sort) })) (placed_length from q r)
      (cut_passes dia b (link.OfArm (length r.drafts) label sort) (record p { labels = names_with r.labels (l ∷ []) }) u))))
  cut_passes dia (in_offers x y arms) from r u = head_lands dia y x from r (open_brace ∷ branch_cut_signs dia arms) u (CutAgrees dia (in_offers x y arms) (wanted_behind r.frames) (scene_of r) u)
      (λ q. λ a f n.
      let p : Reader_data = reader_at_head from q r in
      lands_if (nat_le 200 r.depth) kind.TooDeep a (Ok (reader_in_braces (length r.drafts) p))
      (λ d. Leads (feeding dia) (branch_cut_signs dia arms) u (CutAgrees dia (in_offers x y arms) (wanted_behind r.frames) (scene_of r) u) d) tt
      (subst (λ (z : ℕ). Leads (feeding dia) (branch_cut_signs dia arms) u (BranchAgrees dia arms (record { roles = r.roles; bound = r.bound; depth = suc r.depth; acts = z; labels = r.labels }) u)
      (reader_in_braces (length r.drafts) p)) (placed_length from q r)
      (cut_branches dia arms (length r.drafts) (record p { depth = suc r.depth }) (length r.drafts) r.frames u)))
  cut_passes dia (behind_brace x y arms) from r u =
      head_lands dia y x from r (open_brace ∷ (branch_signs dia arms ++ close_brace ∷ [])) u (CutAgrees dia (behind_brace x y arms) (wanted_behind r.frames) (scene_of r) u)
      (λ q. λ a f n.
      let p : Reader_data = reader_at_head from q r in
      lands_if (nat_le 200 r.depth) kind.TooDeep a (Ok (reader_in_braces (length r.drafts) p))
      (λ d. Leads (feeding dia) (branch_signs dia arms ++ close_brace ∷ []) u (CutAgrees dia (behind_brace x y arms) (wanted_behind r.frames) (scene_of r) u) d) tt
      (branches_pass dia arms (length r.drafts) (record p { depth = suc r.depth }) (length r.drafts) r.frames (close_brace ∷ []) u
      (CutAgrees dia (behind_brace x y arms) (wanted_behind r.frames) (scene_of r) u) refl
      (λ labels drafts start ended bound inner depth g d b. λ a f n. record { wanted = refl; faults = λ t n. none_behind dia r.frames t n (scene_of r); named = λ h. cc })))

  pub cut_branches : (dia : Dialect) (c : BranchCut dia) (act : ℕ) (r : Reader_data) (m : ℕ) (fs : List Frame) (u : Sign)
      → Leads (feeding dia) (branch_cut_signs dia c) u (BranchAgrees dia c (scene_of r) u) (record r { frames = frame_at m r.bound r.depth ∷ fs; mode = mode.InMessage act place.Label })
  cut_branches dia (in_head arm) act r m fs u = arm_cut_passes dia arm act (record r { frames = frame_at m r.bound r.depth ∷ fs }) (scene_of r) u refl
  cut_branches dia (in_branch l s b) act r m fs u =
      let o : Reader_data = record r { frames = frame_at m r.bound r.depth ∷ fs } in
      arm_passes dia l s act o (cut_signs dia b) u (BranchAgrees dia (in_branch l s b) (scene_of r) u)
      (λ label sort. cut_passes dia b (link.OfArm act label sort) (record o { labels = names_with r.labels (l ∷ []) }) u)
  cut_branches dia (later l s b arms) act r m fs u =
      let o : Reader_data = record r { frames = frame_at m r.bound r.depth ∷ fs } in
      arm_passes dia l s act o (body_signs dia b ++ comma ∷ branch_cut_signs dia arms) u (BranchAgrees dia (later l s b arms) (scene_of r) u)
      (λ label sort. passes dia b (link.OfArm act label sort) (record o { labels = names_with r.labels (l ∷ []) }) (comma ∷ branch_cut_signs dia arms) u
      (BranchAgrees dia (later l s b arms) (scene_of r) u) refl
      (λ labels drafts start ended bound inner depth g d h. λ a f n.
      let back : Reader_data = record o { labels = labels; drafts = drafts; start = start; ended = ended } in
      let there : scene_of back ≡ behind dia b (with_label l (scene_of r))
      = ap (λ z. record { roles = r.roles; bound = r.bound; depth = r.depth; acts = z; labels = labels }) d
      ∙ ap (λ z. record { roles = r.roles; bound = r.bound; depth = r.depth; acts = length r.drafts + acts_in dia b; labels = z }) g in
      subst (λ (z : BoundNames). Leads (feeding dia) (branch_cut_signs dia arms) u (BranchAgrees dia (later l s b arms) (scene_of r) u) (record back {
        bound = z;
        mode = mode.InMessage m place.Label;
      }))
      (sym (restored_bound inner bound r.bound h))
      (subst (λ (z : Scene). Leads (feeding dia) (branch_cut_signs dia arms) u (BranchAgrees dia arms z u) (record back { mode = mode.InMessage m place.Label })) there
      (cut_branches dia arms m back m fs u))))

-- ---- openings

role_lands : (after : Mode) (word : List ℕ) (at : ℕ) (r : Reader_data) (Q : Reader_data → Type 0) → Q (record r { roles = r.roles ++ word ∷ []; mode = after })
    → Lands (new_role after (Some word) at r) Q
role_lands after word at r Q h =
    lands_if (is_among word r.roles) kind.NameTwice at (if nat_le 16 (length r.roles) then fault kind.TooManyRoles at else Ok (record r { roles = r.roles ++ word ∷ []; mode = after })) Q tt
    (lands_if (nat_le 16 (length r.roles)) kind.TooManyRoles at (Ok (record r { roles = r.roles ++ word ∷ []; mode = after })) Q tt h)

line_passes : (xs : List (List ℕ)) (r : Reader_data) (ts : List Sign) (u : Sign) (Q : Reader_data → Type 0) → Leads (feeding Talks) ts u Q (record r { roles = r.roles ++ xs; mode = mode.Line })
    → Leads (feeding Talks) (flat_map further_signs xs ++ ts) u Q (record r { mode = mode.Line })
line_passes [] r ts u Q h = subst (λ (z : List (List ℕ)). Leads (feeding Talks) ts u Q (record r { roles = z; mode = mode.Line })) (append-nil r.roles) h
line_passes (x ∷ xs) r ts u Q h = λ a f n. λ a f n. role_lands mode.Line x a (record r { mode = mode.FurtherRole }) (λ d. Leads (feeding Talks) (flat_map further_signs xs ++ ts) u Q d)
    (line_passes xs (record r { roles = r.roles ++ x ∷ [] }) ts u Q
    (subst (λ (z : List (List ℕ)). Leads (feeding Talks) ts u Q (record r { roles = z; mode = mode.Line })) (sym (append_assoc r.roles (x ∷ []) xs)) h))

pub roles_pass : (old : Names_data) (x y : List ℕ) (xs : List (List ℕ)) (ts : List Sign) (u : Sign) (Q : Reader_data → Type 0)
    → Leads (feeding Talks) ts u Q (record (start_of_part Talks old) { roles = x ∷ y ∷ xs; mode = mode.Line }) → Leads (feeding Talks) (line_signs x (y ∷ xs) ++ ts) u Q (start_of_part Talks old)
roles_pass old x y xs ts u Q h =
    λ a f n. λ a f n. role_lands mode.FirstComma x a (record (start_of_part Talks old) { mode = mode.FirstRole })
    (λ d. Leads (feeding Talks) (comma ∷ plain y ∷ (flat_map further_signs xs ++ ts)) u Q d)
    (λ a f n. λ a f n. role_lands mode.Line y a (record (start_of_part Talks old) { roles = x ∷ []; mode = mode.FurtherRole }) (λ d. Leads (feeding Talks) (flat_map further_signs xs ++ ts) u Q d)
    (line_passes xs (record (start_of_part Talks old) { roles = x ∷ y ∷ [] }) ts u Q h))

role_if : (found : Option ℕ) (at : ℕ) (r : Reader_data) (Q : Reader_data → Type 0) → ((k : Role) → Q (record r { role = k; mode = mode.AtColon })) → Lands (role_by found at r) Q
role_if None at r Q h = tt
role_if (Some k) at r Q h = h (record { 0 = k })

-- an opening leads to the body behind it
pub opening_passes : (dia : Dialect) (old : Names_data) (o : Opening dia) (ts : List Sign) (u : Sign) (Q : Reader_data → Type 0)
    → ((k : Role) → Leads (feeding dia) ts u Q (record (start_of_part dia old) { roles = roles_in dia old o; role = k; mode = mode.Body link.Start }))
    → Leads (feeding dia) (opening_signs dia o ++ ts) u Q (start_of_part dia old)
opening_passes Talks old (of_roles x y xs) ts u Q h =
    subst (λ (z : List Sign). Leads (feeding Talks) z u Q (start_of_part Talks old)) (sym (append_assoc (line_signs x (y ∷ xs)) (plain (codes "protocol") ∷ []) ts))
    (roles_pass old x y xs (plain (codes "protocol") ∷ ts) u Q (λ a f n. h (record { 0 = 0 })))
opening_passes Acts old (of_role x) ts u Q h =
    λ a f n. λ a f n. role_if (place_of x old.roles) a (record (start_of_part Acts old) { mode = mode.AtRole }) (λ d. Leads (feeding Acts) (colon ∷ ts) u Q d) (λ k. λ a f n. h k)

here : (dia : Dialect) (old : Names_data) (o : OpeningCut dia) (u : Sign) (d : Reader_data) → wanted_by dia d.mode d.frames ≡ opening_wants dia o
    → ((t n : Sign) → fault_of dia old (in_opening o) t n ≡ fault_seen dia d.mode t n d) → NamedBy dia d.mode u false d → PlaceAgrees dia old (in_opening o) u d
here dia old o u d w f h = record { wanted = w; faults = f; named = h }

word_in : (old : Names_data) (x : List ℕ) (xs : List (List ℕ)) (t n : Sign) → fault_of Talks old (in_opening (at_further x xs)) t n ≡ fault_in_line t (x ∷ xs)
word_in old x xs (plain w) n = refl
word_in old x xs _ n = refl

word_first : (old : Names_data) (t n : Sign) → fault_of Talks old (in_opening at_first) t n ≡ fault_in_line t []
word_first old (plain w) n = refl
word_first old _ n = refl

word_role : (old : Names_data) (t n : Sign) (s : Scene) → s.roles ≡ old.roles → fault_of Acts old (in_opening at_role) t n ≡ fault_by Acts wanted.Role t n s
word_role old (plain w) n s e = ap (λ z. fault_of_role w z) (sym e)
word_role old _ n s e = refl

opening_cut_passes : (dia : Dialect) (old : Names_data) (o : OpeningCut dia) (u : Sign) → Leads (feeding dia) (opening_cut_signs dia o) u (PlaceAgrees dia old (in_opening o) u) (start_of_part dia old)
opening_cut_passes Talks old at_roles u = record { wanted = refl; faults = λ t n. refl; named = tt }
opening_cut_passes Talks old at_first u = λ a f n. record { wanted = refl; faults = λ t n. word_first old t n; named = tt }
opening_cut_passes Talks old (behind_first x) u =
    λ a f n. λ a f n. role_lands mode.FirstComma x a (record (start_of_part Talks old) { mode = mode.FirstRole }) (PlaceAgrees Talks old (in_opening (behind_first x)) u)
    (record { wanted = refl; faults = λ t n. refl; named = tt })
opening_cut_passes Talks old (at_further x []) u =
    λ a f n. λ a f n. role_lands mode.FirstComma x a (record (start_of_part Talks old) { mode = mode.FirstRole })
    (λ d. Leads (feeding Talks) (comma ∷ []) u (PlaceAgrees Talks old (in_opening (at_further x [])) u) d) (λ a f n. record { wanted = refl; faults = λ t n. word_in old x [] t n; named = tt })
opening_cut_passes Talks old (at_further x (y ∷ xs)) u =
    roles_pass old x y xs (comma ∷ []) u (PlaceAgrees Talks old (in_opening (at_further x (y ∷ xs))) u) (λ a f n. record { wanted = refl; faults = λ t n. word_in old x (y ∷ xs) t n; named = tt })
opening_cut_passes Talks old (behind_further x y xs) u =
    subst (λ (z : List Sign). Leads (feeding Talks) z u (PlaceAgrees Talks old (in_opening (behind_further x y xs)) u) (start_of_part Talks old)) (append-nil (line_signs x (y ∷ xs)))
    (roles_pass old x y xs [] u (PlaceAgrees Talks old (in_opening (behind_further x y xs)) u) (record { wanted = refl; faults = λ t n. refl; named = tt }))
opening_cut_passes Acts old at_machine u = record { wanted = refl; faults = λ t n. refl; named = tt }
opening_cut_passes Acts old at_role u = λ a f n. record { wanted = refl; faults = λ t n. word_role old t n _ refl; named = tt }
opening_cut_passes Acts old (behind_role x) u =
    λ a f n. λ a f n. role_if (place_of x old.roles) a (record (start_of_part Acts old) { mode = mode.AtRole }) (PlaceAgrees Acts old (in_opening (behind_role x)) u)
    (λ k. record { wanted = refl; faults = λ t n. refl; named = tt })

-- at every place the reader stands as the place says
pub place_passes : (dia : Dialect) (old : Names_data) (c : PartCut dia) (u : Sign) → Leads (feeding dia) (part_cut_signs dia c) u (PlaceAgrees dia old c u) (start_of_part dia old)
place_passes dia old (in_opening o) u = opening_cut_passes dia old o u
place_passes dia old (in_body o body) u =
    opening_passes dia old o (cut_signs dia body) u (PlaceAgrees dia old (in_body o body) u)
    (λ k. cut_passes dia body link.Start (record (start_of_part dia old) { roles = roles_in dia old o; role = k }) u)

-- no token of a part is unexpected
pub tree_passes : (dia : Dialect) (old : Names_data) (t : Tree dia) → Leads (feeding dia) (tree_signs dia t) finish (λ d. Unit {0}) (start_of_part dia old)
tree_passes dia old t = opening_passes dia old t.opening (body_signs dia t.body) finish (λ d. Unit {0})
    (λ k. subst (λ (z : List Sign). Leads (feeding dia) z finish (λ d. Unit {0}) (record (start_of_part dia old) { roles = roles_in dia old t.opening; role = k; mode = mode.Body link.Start }))
    (append-nil (body_signs dia t.body))
    (passes dia t.body link.Start (record (start_of_part dia old) { roles = roles_in dia old t.opening; role = k }) [] finish (λ d. Unit {0}) refl
    (λ labels drafts start ended bound inner depth g d b. tt)))

-- ---- lists in two parts
