-- A book and the rows of the tables lent with it.
use Rattle.std.specs.Prelude.{List, length}
use Rattle.segments.specs.declared.size_data.ComponentSizeInfo.{ComponentSizeInfo}
use Rattle.settings.specs.declared.rows.ComponentSettings.{ComponentSettings}
use Rattle.settings.specs.declared.rows.PackedRow.{PackedRow}
use Rattle.settings.specs.declared.rows.PartRow.{PartRow}
use Rattle.settings.specs.declared.rows.TileRow.{TileRow}
use Rattle.main_survey.specs.declared.room.Room.{Room}
use Rattle.tables.specs.declared.book.TileBook.{TileBook}
use Rattle.tables.specs.declared.tables.Tables.{Tables}

pub record State : Type 0 where
  pub book : TileBook
  pub components : List ComponentSizeInfo
  pub tiles : List TileRow
  pub settings : List ComponentSettings
  pub packets : List PackedRow
  pub parts : List PartRow
  pub headers : List PackedRow

abbrev pub state_of : TileBook → Tables → State
state_of b t =
    record {
      book = b;
      components = t.components.now;
      tiles = t.tiles.now;
      settings = t.settings.now;
      packets = t.packets.now;
      parts = t.parts.now;
      headers = t.headers.now;
    }

-- the room that the tables have for a main header
abbrev pub room_of : State → Room
room_of s =
    record {
      components = length s.components;
      tiles = length s.tiles;
      settings = length s.settings;
      packets = length s.packets;
    }
