-- The lines of svccfg that make the instances of tables.
use Rattle.std.specs.Prelude.{ℕ, nat_eq, List, [], ◌∷◌, ◌++◌, Bool, true, false, Option, Some, None, codes, if◌then◌else◌}
use Rattle.std.specs.Cmp.Lexicographic.{pointwise}
use Rattle.std.specs.Fmt.{decimal, signed_decimal}
use Rattle.std.specs.String.{string_bytes}
use Rattle.smf_toml.specs.declared.site.Words.{Words}
use Rattle.smf_fmri.specs.Name.{strip}
use Rattle.smf_toml.specs.Commands.{start_command}
use Rattle.smf_toml.specs.Pieces.{text_of, texts_in}
use Rattle.smf_svccfg.specs.Tokens.{escaped_text}
use Rattle.smf_toml.specs.declared.site.Entry.{Entry}
use Rattle.smf_toml.specs.declared.site.InstanceTable.{InstanceTable}
use Rattle.smf_toml.specs.declared.site.PropertyGroup.{PropertyGroup}
use Rattle.smf_toml.specs.declared.site.PropertyValue.{PropertyValue}
use Rattle.smf_toml.specs.declared.site.PropertyValue.TheVariants as values
use Rattle.smf_toml.specs.declared.site.Setting.{Setting}

-- ---- lines

abbrev pub group_line : List ℕ → List ℕ → List ℕ
group_line group type = codes "addpg " ++ group ++ codes " " ++ type ++ codes "\n"

-- a property with its kind
abbrev pub property_of : List ℕ → List ℕ → List ℕ → List ℕ
property_of group name kind = codes "setprop " ++ group ++ codes "/" ++ name ++ codes " = " ++ kind ++ codes ": "

abbrev pub text_line : List ℕ → List ℕ → List ℕ → List ℕ
text_line group name text = property_of group name (codes "astring") ++ codes "\"" ++ escaped_text text ++ codes "\"\n"

abbrev pub number_line : List ℕ → List ℕ → ℕ → List ℕ
number_line group name n = property_of group name (codes "count") ++ decimal n ++ codes "\n"

abbrev pub word_of : Bool → List ℕ
word_of true = codes "true"
word_of false = codes "false"

abbrev pub boolean_line : List ℕ → List ℕ → Bool → List ℕ
boolean_line group name b = property_of group name (codes "boolean") ++ word_of b ++ codes "\n"

abbrev pub text_line_if : List ℕ → List ℕ → Option Words → List ℕ
text_line_if group name None = []
text_line_if group name (Some t) = text_line group name (text_of t)

abbrev pub number_line_if : List ℕ → List ℕ → Option ℕ → List ℕ
number_line_if group name None = []
number_line_if group name (Some n) = number_line group name n

abbrev pub boolean_line_if : List ℕ → List ℕ → Option Bool → List ℕ
boolean_line_if group name None = []
boolean_line_if group name (Some b) = boolean_line group name b

-- ---- methods

abbrev pub method_lines : List ℕ → List ℕ → Option ℕ → List ℕ
method_lines method command timeout =
    group_line method (codes "method") ++ text_line method (codes "exec") command
    ++ number_line_if method (codes "timeout_seconds") timeout

abbrev pub stop_command : Option Words → List ℕ
stop_command None = codes ":kill"
stop_command (Some t) = text_of t

abbrev pub refresh_lines : Option Words → Option ℕ → List ℕ
refresh_lines None timeout = []
refresh_lines (Some t) timeout = method_lines (codes "refresh") (text_of t) timeout

abbrev pub start_lines : InstanceTable → List ℕ
start_lines t = method_lines (codes "start") (start_command t) t.start_timeout

abbrev pub stop_lines : Option Words → Option ℕ → List ℕ
stop_lines stop timeout = method_lines (codes "stop") (stop_command stop) timeout

-- a refresh only if there is a command for it
unfoldable pub methods_of : InstanceTable → List ℕ
methods_of t =
    start_lines t ++ stop_lines t.stop t.stop_timeout ++ refresh_lines t.refresh t.refresh_timeout

-- ---- dependencies

abbrev pub prefixed : Option (List ℕ) → List ℕ → List ℕ
prefixed (Some rest) name = name
prefixed None name = codes "svc:/" ++ name

-- the name of a service or an instance, with `svc:/`
abbrev pub full_name : List ℕ → List ℕ
full_name name = prefixed (strip (codes "svc:/") name) name

abbrev pub entity_of : List ℕ → List ℕ
entity_of name = codes " \"" ++ escaped_text (full_name name) ++ codes "\""

abbrev pub entities_of : List Words → List ℕ
entities_of [] = []
entities_of (t ∷ ts) = entity_of (text_of t) ++ entities_of ts

abbrev pub restarts : Option Words → List ℕ
restarts None = codes "none"
restarts (Some t) = text_of t

abbrev pub dependency_head : List ℕ → List ℕ → Option Words → List ℕ
dependency_head group grouping restart_on =
    group_line group (codes "dependency") ++ text_line group (codes "grouping") grouping
    ++ text_line group (codes "restart_on") (restarts restart_on) ++ text_line group (codes "type") (codes "service")

-- none without entities
abbrev pub dependency_lines : List ℕ → List ℕ → Option Words → List Words → List ℕ
dependency_lines group grouping restart_on [] = []
dependency_lines group grouping restart_on (t ∷ ts) =
    dependency_head group grouping restart_on
    ++ property_of group (codes "entities") (codes "fmri") ++ codes "(" ++ entities_of (t ∷ ts) ++ codes " )\n"

unfoldable pub dependencies_of : InstanceTable → List ℕ
dependencies_of t =
    dependency_lines (codes "needs") (codes "require_all") t.restart_on (texts_in t.needs)
    ++ dependency_lines (codes "needs_any") (codes "require_any") t.restart_on (texts_in t.needs_any)
    ++ dependency_lines (codes "wants") (codes "optional_all") t.restart_on (texts_in t.wants)
    ++ dependency_lines (codes "conflicts") (codes "exclude_all") t.restart_on (texts_in t.conflicts)

-- ---- the group startd

abbrev pub kind_lines : InstanceTable → List ℕ
kind_lines t =
    text_line_if (codes "startd") (codes "duration") t.duration
    ++ text_line_if (codes "startd") (codes "ignore_error") t.ignore_error

abbrev pub bound_lines : InstanceTable → List ℕ
bound_lines t =
    number_line_if (codes "startd") (codes "critical_failure_count") t.critical_failure_count
    ++ number_line_if (codes "startd") (codes "critical_failure_period") t.critical_failure_period
    ++ number_line_if (codes "startd") (codes "log_keep") t.log_keep
    ++ number_line_if (codes "startd") (codes "log_max") t.log_max

abbrev pub retry_lines : InstanceTable → List ℕ
retry_lines t =
    number_line_if (codes "startd") (codes "retry_count") t.retry_count
    ++ number_line_if (codes "startd") (codes "retry_most") t.retry_most
    ++ number_line_if (codes "startd") (codes "retry_seconds") t.retry_seconds

-- a group, if it has properties
abbrev pub in_group : List ℕ → List ℕ → List ℕ
in_group group [] = []
in_group group (b ∷ bs) = group_line group (codes "framework") ++ (b ∷ bs)

unfoldable pub startd_lines : InstanceTable → List ℕ
startd_lines t = in_group (codes "startd") (kind_lines t ++ bound_lines t ++ retry_lines t)

-- ---- the group general

abbrev pub restarter_lines : Option Words → List ℕ
restarter_lines None = []
restarter_lines (Some t) = text_line (codes "general") (codes "restarter") (full_name (text_of t))

unfoldable pub general_lines : InstanceTable → List ℕ
general_lines t =
    in_group (codes "general")
    (boolean_line_if (codes "general") (codes "enabled") t.enabled
    ++ restarter_lines t.restarter)

-- ---- groups that are the application's own

abbrev pub value_line : List ℕ → List ℕ → PropertyValue → List ℕ
value_line group name (values.Boolean b) = boolean_line group name b
value_line group name (values.Count n) = number_line group name n
value_line group name (values.Integer z) = property_of group name (codes "integer") ++ signed_decimal z ++ codes "\n"
value_line group name (values.Text t) = text_line group name (text_of t)

abbrev pub setting_lines : List ℕ → List Setting → List ℕ
setting_lines group [] = []
setting_lines group (s ∷ ss) = value_line group (string_bytes s.name) s.value ++ setting_lines group ss

abbrev pub own_group : List ℕ → List Setting → List ℕ
own_group name settings = group_line name (codes "application") ++ setting_lines name settings

abbrev pub own_lines : List PropertyGroup → List ℕ
own_lines [] = []
own_lines (g ∷ gs) = own_group (string_bytes g.name) g.settings.items ++ own_lines gs

-- ---- instances

-- what stands in an instance
unfoldable pub instance_lines : Entry → List ℕ
instance_lines e =
    methods_of e.table ++ dependencies_of e.table ++ startd_lines e.table ++ own_lines e.groups.items ++ general_lines e.table

-- something is added, and selected
abbrev pub begin_lines : List ℕ → List ℕ
begin_lines name = codes "add " ++ name ++ codes "\nselect " ++ name ++ codes "\n"

abbrev pub in_instance : Entry → List ℕ
in_instance e = begin_lines (string_bytes e.instance) ++ instance_lines e ++ codes "unselect\n"

-- a service is added before its first instance, and left behind its last one
abbrev pub service_begins : Option (List ℕ) → List ℕ → List ℕ
service_begins None name = begin_lines name
service_begins (Some before) name =
    if pointwise nat_eq before name then []
    else codes "unselect\n" ++ begin_lines name

abbrev pub lines_after : Option (List ℕ) → List Entry → List ℕ
lines_after before [] = []
lines_after before (e ∷ es) =
    service_begins before (string_bytes e.service) ++ in_instance e ++ lines_after (Some (string_bytes e.service)) es

-- the lines that make instances, those of one service one after another
unfoldable pub lines_of : List Entry → List ℕ
lines_of es = lines_after None es ++ codes "end\n"
