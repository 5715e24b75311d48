-- Worked examples computed: a privilege by nested groups, the complement that reads, a move out of a scope, and who holds what.
use Rattle.std.proofs.Common.{◌≡◌, [], ◌∷◌, true, false, None, Some, codes, refl}
use Rattle.reg_base.specs.declared.privilege.Privilege.TheVariants.{Read, View, Update, Optin, Create}
use Rattle.reg_terms.specs.declared.kinds.Holder.TheVariants as holder
use Rattle.reg_terms.specs.declared.kinds.InheritKind.TheVariants as kind
use Rattle.reg_terms.specs.declared.kinds.Member.TheVariants as member_kind
use Rattle.reg_terms.specs.declared.kinds.Object.TheVariants as object
use Rattle.reg_terms.specs.declared.kinds.Scope.TheVariants as scope
use Rattle.reg_terms.specs.declared.kinds.SetOp.TheVariants.{Complement}
use Rattle.reg_facts.specs.Lists.{Lists, start, root_row}
use Rattle.reg_facts.specs.Naming.{resolve, placed, lies_in}
use Rattle.reg_effect.specs.declared.live.Live.{Live}
use Rattle.reg_effect.specs.Member.{member}
use Rattle.reg_priv.specs.declared.who.Who.TheVariants.{System, Person}
use Rattle.reg_priv.specs.May.{may, visible}
use Rattle.reg_priv.specs.Holders.{holders}

-- the folders app (1), old (2) and app:web (3), and the groups app:web:admins (1), staff (2), night (3) and day (4) in them
pub facts : Lists
facts = record start {
  folders = root_row ∷ (record { id = 1; parent = Some 0; extension = codes "app"; display = [] }) ∷ (record { id = 2; parent = Some 0; extension = codes "old"; display = [] }) ∷ (record { id = 3; parent = Some 1; extension = codes "web"; display = [] }) ∷ [];
  groups = (record { id = 1; folder = 3; extension = codes "admins"; display = [] }) ∷ (record { id = 2; folder = 1; extension = codes "staff"; display = [] }) ∷ (record { id = 3; folder = 1; extension = codes "night"; display = [] }) ∷ (record { id = 4; folder = 1; extension = codes "day"; display = [] }) ∷ [];
}

-- night is in staff, with ann (1) in night and bob (2) in staff; day is staff without night
pub live : Live
live = record {
  rows = (2, member_kind.Person 2) ∷ (2, member_kind.Group 3) ∷ (3, member_kind.Person 1) ∷ [];
  composites = (record { group = 4; op = Complement; left = 2; right = 3 }) ∷ [];
}

-- staff sees the group: so does ann, who is in it by night, and nobody else
pub seen_by_staff : Lists
seen_by_staff = record facts { grants = (record { object = object.Group 1; privilege = View; holder = holder.Group 2; from = None; until = None }) ∷ [] }

pub nested_group_sees : visible live seen_by_staff (Person 1) (object.Group 1) ≡ true
unfolding facts live seen_by_staff resolve placed lies_in member
nested_group_sees = refl

pub stranger_sees_nothing : visible live seen_by_staff (Person 3) (object.Group 1) ≡ false
unfolding facts live seen_by_staff resolve placed lies_in member
stranger_sees_nothing = refl

pub seeing_is_not_reading : may live seen_by_staff (Person 1) (object.Group 1) Read ≡ false
unfolding facts live seen_by_staff resolve placed lies_in member
seeing_is_not_reading = refl

-- staff will see the group from a moment on: nobody sees it yet, and it has no holder
pub seen_later : Lists
seen_later = record facts { grants = (record { object = object.Group 1; privilege = View; holder = holder.Group 2; from = Some 7; until = None }) ∷ [] }

pub nobody_sees_it_yet : visible live seen_later (Person 1) (object.Group 1) ≡ false
unfolding facts live seen_later resolve placed lies_in member
nobody_sees_it_yet = refl

pub nobody_holds_it_yet : holders (object.Group 1) seen_later ≡ []
unfolding facts seen_later placed lies_in
nobody_holds_it_yet = refl

-- day reads the group: bob does, and ann, who is in night, doesn't
pub read_by_day : Lists
read_by_day = record facts { grants = (record { object = object.Group 1; privilege = Read; holder = holder.Group 4; from = None; until = None }) ∷ [] }

pub complement_reads : may live read_by_day (Person 2) (object.Group 1) Read ≡ true
unfolding facts live read_by_day resolve placed lies_in member
complement_reads = refl

pub the_other_reads_not : may live read_by_day (Person 1) (object.Group 1) Read ≡ false
unfolding facts live read_by_day resolve placed lies_in member
the_other_reads_not = refl

-- ann may update all groups at any depth below app
pub inherited : Lists
inherited = record facts { inherits = (record { folder = 1; kind = kind.Group; scope = scope.Sub; privilege = Update; holder = holder.Person 1 }) ∷ [] }

pub inherited_serves : may live inherited (Person 1) (object.Group 1) Optin ≡ true
unfolding facts live inherited resolve placed lies_in member
inherited_serves = refl

-- app:web moved to old
pub moved : Lists
moved = record inherited {
  folders = root_row ∷ (record { id = 1; parent = Some 0; extension = codes "app"; display = [] }) ∷ (record { id = 2; parent = Some 0; extension = codes "old"; display = [] }) ∷ (record { id = 3; parent = Some 2; extension = codes "web"; display = [] }) ∷ [];
}

pub a_move_out_of_the_scope_ends_it : may live moved (Person 1) (object.Group 1) Optin ≡ false
unfolding facts live inherited moved resolve placed lies_in member
a_move_out_of_the_scope_ends_it = refl

-- a folder isn't in its own scope, and what stands in it is
pub creating : Lists
creating = record facts { inherits = (record { folder = 1; kind = kind.Folder; scope = scope.One; privilege = Create; holder = holder.Everyone }) ∷ [] }

pub not_in_its_own_scope : may live creating (Person 1) (object.Folder 1) Create ≡ false
unfolding facts live creating resolve placed lies_in member
not_in_its_own_scope = refl

pub in_the_scope : may live creating (Person 1) (object.Folder 3) Create ≡ true
unfolding facts live creating resolve placed lies_in member
in_the_scope = refl

-- the system may do everything on an object of the privilege's kind, and on no other
pub system_may : may live facts System (object.Group 1) Update ≡ true
unfolding facts live resolve placed lies_in member
system_may = refl

pub of_another_kind : may live facts System (object.Folder 1) Update ≡ false
unfolding facts live resolve placed lies_in member
of_another_kind = refl

-- what is written and what is inherited, in order, a pair once
pub many : Lists
many = record inherited { grants = (record { object = object.Group 1; privilege = View; holder = holder.Group 2; from = None; until = None }) ∷ (record { object = object.Group 1; privilege = View; holder = holder.Everyone; from = None; until = None }) ∷ (record { object = object.Group 1; privilege = Update; holder = holder.Person 1; from = None; until = None }) ∷ [] }

pub in_order : holders (object.Group 1) many ≡ (Update, holder.Person 1) ∷ (View, holder.Everyone) ∷ (View, holder.Group 2) ∷ []
unfolding facts inherited many placed lies_in
in_order = refl
