-- How the settings, which lend texts of the words, are seen: by the bytes of these texts, and the rules by their table.
use Rattle.std.specs.Prelude.{Ok, option_copied}
use Rattle.srs.specs.Rules.{table_of}
use Rattle.pc_settings.specs.declared.combo.ComboSettings.{ComboSettings}
use Rattle.pc_settings.specs.declared.field.FieldSettings.{FieldSettings}
use Rattle.pc_settings.specs.declared.field.FieldWords.{FieldWords}
use Rattle.pc_settings.specs.declared.field.FieldWords.TheVariants.{Rows, Tetfu}
use Rattle.pc_settings.specs.declared.path.PathSettings.{PathSettings}
use Rattle.pc_settings.specs.declared.percent.PercentSettings.{PercentSettings}
use Rattle.pc_settings.specs.Request.{ComboRequest, FieldRequest, FieldText, PathRequest, PercentRequest, fumen_text, rows_text}

abbrev pub text_view : FieldWords → FieldText
text_view (Rows text) = rows_text text.now
text_view (Tetfu text) = fumen_text text.now

abbrev pub field_view : FieldSettings → FieldRequest
field_view settings = record {
  field = text_view settings.field;
  page = settings.page;
  height = settings.height;
  patterns = settings.patterns.now;
  hold = settings.hold;
  held = settings.held;
  drop_mode = settings.drop_mode;
  table = Ok (table_of settings.rules);
}

abbrev pub path_view : PathSettings → PathRequest
path_view settings = record {
  common = field_view settings.common;
  after = option_copied settings.after;
  limit = settings.limit;
  keys = settings.keys;
  format = settings.format;
  stats = settings.stats;
}

abbrev pub percent_view : PercentSettings → PercentRequest
percent_view settings = record {
  common = field_view settings.common;
  failed = settings.failed;
}

abbrev pub combo_view : ComboSettings → ComboRequest
combo_view settings = record {
  field = text_view settings.field;
  page = settings.page;
  patterns = settings.patterns.now;
  hold = settings.hold;
  held = settings.held;
  drop_mode = settings.drop_mode;
  table = Ok (table_of settings.rules);
  keys = settings.keys;
}
