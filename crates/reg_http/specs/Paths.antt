-- Which paths have a route, in plain words.
use Rattle.std.specs.Prelude.{◌≡◌, ℕ, ◌<◌, Bool, true, false, List, [], ◌++◌, length, codes}
use Rattle.matchit.specs.Seek.{has_slash}
use Rattle.reg_http.specs.declared.route.Route.{Route}
use Rattle.reg_http.specs.declared.route.Route.TheVariants.{Requests, Load, Group, Members, Rows}
use Rattle.reg_http.specs.declared.route.Route.TheVariants.{History, Folder, Groups, Grants}
use Rattle.reg_http.specs.declared.route.Route.TheVariants.{Privileges, Attributes, Log, Admin}

-- one byte at least, and no slash
pub record IsSegment (part : List ℕ) : Type 0 where
  pub some : 0 < length part
  pub plain : has_slash part ≡ false

-- what stands before a route's parameter, or the whole path where it has none
abbrev pub front_of : Route → List ℕ
front_of Requests = codes "/requests"
front_of Load = codes "/jobs/"
front_of Group = codes "/groups/"
front_of Members = codes "/groups/"
front_of Rows = codes "/groups/"
front_of History = codes "/groups/"
front_of Folder = codes "/folders/"
front_of Groups = codes "/subjects/"
front_of Grants = codes "/objects/"
front_of Privileges = codes "/objects/"
front_of Attributes = codes "/objects/"
front_of Log = codes "/consumers/"
front_of Admin = codes "/admin"

-- what stands after it
abbrev pub back_of : Route → List ℕ
back_of Requests = []
back_of Load = codes "/load"
back_of Group = []
back_of Members = codes "/members"
back_of Rows = codes "/rows"
back_of History = codes "/history"
back_of Folder = []
back_of Groups = codes "/groups"
back_of Grants = codes "/grants"
back_of Privileges = codes "/privileges"
back_of Attributes = codes "/attributes"
back_of Log = codes "/log"
back_of Admin = []

abbrev pub has_parameter : Route → Bool
has_parameter Requests = false
has_parameter Admin = false
has_parameter _ = true

-- the parameter is one segment, or empty where the route has none
abbrev pub IsParameter : Bool → List ℕ → Type 0
IsParameter true part = IsSegment part
IsParameter false part = part ≡ []

-- the path is the route's, with this parameter in its place
pub record IsPathOf (route : Route) (part path : List ℕ) : Type 0 where
  pub parameter : IsParameter (has_parameter route) part
  pub path_is : path ≡ front_of route ++ part ++ back_of route
