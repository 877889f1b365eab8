-- What a command function requires of its sources and sinks.
use Rattle.std.specs.Prelude.{◌≡◌}
use Rattle.driver.specs.declared.devices.Devices.{Devices}

-- Nothing has been read, and no read, write or flush has failed.
abbrev pub AreNew : Devices → Type 0
AreNew d = (d.a.given ≡ 0) × (d.a.failures ≡ 0) × (d.b.given ≡ 0) × (d.b.failures ≡ 0)
    × (d.output.failures ≡ 0) × (d.errors.failures ≡ 0)

-- Nothing was written.
abbrev pub AreUnwritten : Devices → Devices → Type 0
AreUnwritten old new = (new.output ≡ old.output) × (new.errors ≡ old.errors)
