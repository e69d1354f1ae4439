-- The command that starts an instance.
use Rattle.std.specs.Prelude.{ℕ, List, [], ◌∷◌, ◌++◌, Option, Some, None, option_map, codes}
use Rattle.smf_toml.specs.Pieces.{flag_option, number_option, script_text, signed_option, text_of, text_option, text_options, texts_in}
use Rattle.smf_toml.specs.declared.site.InstanceTable.{InstanceTable}
use Rattle.smf_toml.specs.declared.site.ReadyTable.{ReadyTable}

-- the options of smf_ready
abbrev pub ready_options : ReadyTable → List ℕ
ready_options r =
    flag_option (codes "--notify") r.notify
    ++ number_option (codes "--port") r.port
    ++ text_option (codes "--http") (option_map text_of r.http)
    ++ text_option (codes "--file") (option_map text_of r.file)
    ++ number_option (codes "--alive") r.alive
    ++ number_option (codes "--timeout") r.timeout
    ++ number_option (codes "--watchdog") r.watchdog

-- the program with them, before the command that it runs
abbrev pub ready_words : Option ReadyTable → List ℕ
ready_words None = []
ready_words (Some r) = codes "$SMF_LIBEXEC/smf_ready " ++ ready_options r ++ codes "-- "

-- the options of smf_exec that say who and where the process is
abbrev pub place_options : InstanceTable → List ℕ
place_options t =
    text_option (codes "-u") (option_map text_of t.user)
    ++ text_option (codes "-d") (option_map text_of t.directory)
    ++ text_options (codes "-e") (texts_in t.environment)
    ++ text_option (codes "-E") (option_map text_of t.environment_file)
    ++ text_option (codes "-m") (option_map text_of t.umask)

-- and those that bound it
abbrev pub limit_options : InstanceTable → List ℕ
limit_options t =
    text_options (codes "-l") (texts_in t.limits)
    ++ signed_option (codes "-n") t.nice
    ++ flag_option (codes "--no-new-privs") t.no_new_privs
    ++ text_option (codes "--memory") (option_map text_of t.memory)
    ++ number_option (codes "--tasks") t.tasks
    ++ text_option (codes "--cpu") (option_map text_of t.cpu)

abbrev pub exec_options : InstanceTable → List ℕ
exec_options t = place_options t ++ limit_options t

abbrev pub exec_words : List ℕ → List ℕ
exec_words [] = []
exec_words (b ∷ bs) = codes "$SMF_LIBEXEC/smf_exec " ++ (b ∷ bs) ++ codes "-- "

-- the words before a command, and the command as the script of a shell behind them; without any the command as it is
abbrev pub behind : List ℕ → List ℕ → List ℕ
behind [] command = command
behind (b ∷ bs) command = codes "exec " ++ (b ∷ bs) ++ codes "/bin/sh -c '" ++ script_text command ++ codes "'"

unfoldable pub start_command : InstanceTable → List ℕ
start_command t = behind (ready_words t.ready ++ exec_words (exec_options t)) (text_of t.start)
