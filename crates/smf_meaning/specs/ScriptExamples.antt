-- What lines of scripts ask for, one example for each rule.
use Rattle.std.specs.Prelude.{◌≡◌, [], ◌∷◌, codes}
use Rattle.smf_contract.specs.declared.event.Exit.TheVariants.{Code}
use Rattle.smf_contract.specs.declared.event.Failure.TheVariants.{Core}
use Rattle.smf_world.specs.declared.event.ProcessEvent.TheVariants as processes
use Rattle.smf_script.specs.declared.request.ChildRequest.TheVariants as children
use Rattle.smf_script.specs.declared.request.NodeRequest.TheVariants as nodes
use Rattle.smf_script.specs.declared.request.Request.{Request}
use Rattle.smf_script.specs.declared.request.Request.TheVariants.{Children, Node}
use Rattle.smf_script.specs.Requests.{asked_of}

abbrev pub bad : Request
bad = Node nodes.Bad

-- a blank line and a comment ask for nothing; a comment has its sign as the first byte
abbrev pub NothingIsAsked : Type 0
NothingIsAsked =
    (asked_of (codes "") ≡ Node nodes.Nothing) × (asked_of (codes "  ") ≡ Node nodes.Nothing)
    × (asked_of (codes "# boot") ≡ Node nodes.Nothing) × (asked_of (codes " # boot") ≡ bad)

-- a line of svccfg is what stands behind one blank, as it stands there
abbrev pub LinesStayWhole : Type 0
LinesStayWhole = asked_of (codes " svccfg  select  web ") ≡ Node (nodes.Svccfg (codes " select  web "))

-- other lines are words
abbrev pub WordsAreParted : Type 0
WordsAreParted =
    (asked_of (codes "svcadm  enable web ") ≡ Node (nodes.Svcadm (codes "enable" ∷ codes "web" ∷ [])))
    × (asked_of (codes "svcs") ≡ Node (nodes.Svcs []))

-- a count stands alone
abbrev pub CountsAreRead : Type 0
CountsAreRead =
    (asked_of (codes "settle 20") ≡ Children (children.Settle 20)) × (asked_of (codes "lose 3") ≡ Node (nodes.Lose 3))
    × (asked_of (codes "settle") ≡ bad) × (asked_of (codes "settle x") ≡ bad) × (asked_of (codes "settle 1 2") ≡ bad)

-- an exit has a code, which is a byte
abbrev pub CodesAreBytes : Type 0
CodesAreBytes =
    (asked_of (codes "exit web 255") ≡ Children (children.Process (codes "web") (processes.Exit (Code 255))))
    × (asked_of (codes "exit web 256") ≡ bad) × (asked_of (codes "exit web") ≡ bad)

-- what happens to a process has the word of an instance
abbrev pub EventsHaveAWord : Type 0
EventsHaveAWord =
    (asked_of (codes "core web") ≡ Children (children.Process (codes "web") (processes.Fail Core)))
    × (asked_of (codes "fork web") ≡ Children (children.Process (codes "web") processes.Fork)) × (asked_of (codes "fork") ≡ bad)

-- what has no words has none, and there are no other lines
abbrev pub OthersAreBad : Type 0
OthersAreBad =
    (asked_of (codes "trail") ≡ Node nodes.Trail) × (asked_of (codes "trail web") ≡ bad)
    × (asked_of (codes "boot") ≡ Children children.Boot) × (asked_of (codes "boot web") ≡ bad) × (asked_of (codes "Boot") ≡ bad)
