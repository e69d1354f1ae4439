use Rattle.std.proofs.Common.{◌≡◌, ◌++◌, drop}
use Rattle.smf_toml.specs.Lines.{setting_lines}
use Rattle.smf_toml.proofs.lines.put_settings.Given as goal

abbrev pub invariant-loop-setting : goal.invariant-loop-setting
invariant-loop-setting l =
    l.out.items ++ setting_lines l.group (drop l.setting-index l.settings)
    ≡ l.fn.out.items ++ setting_lines l.group l.settings
