-- The tables that are made while a text is looked through.
use Rattle.pb_schema.specs.Types.{Types}
use Rattle.pb_json.specs.Given.{NamesGiven}
use Rattle.pb_json_read.specs.declared.tables.Tables.{Tables}
use Rattle.pb_json_read.specs.NameTables.{AreFieldTables, AreValueTables}

-- tables of message types of a pool, whose fields are given names, and of its enums
abbrev pub AreTables : Types → NamesGiven → Tables → Type 0
AreTables pool names t = AreFieldTables pool names t.fields × AreValueTables pool t.values
