-- Blank rows: zeros, with 1 for a component's precision and steps, and 2 for the exponents of a code-block's width and height.
use Rattle.std.specs.Prelude.{◌≡◌, false, replicate}
use Rattle.coding.specs.Coding.{widths_of, heights_of}
use Rattle.coding.specs.declared.parameters.CodingStyleParameters.{CodingStyleParameters}
use Rattle.coding.specs.declared.styles.CodeBlockStyle.{CodeBlockStyle}
use Rattle.coding.specs.declared.styles.ProgressionOrder.TheVariants.{LayerResolutionComponentPosition}
use Rattle.coding.specs.declared.styles.WaveletTransform.TheVariants.{Irreversible97}
use Rattle.quantization.specs.declared.info.QuantizationInfo.{QuantizationInfo}
use Rattle.quantization.specs.declared.info.QuantizationStyle.TheVariants.{NoQuantization}
use Rattle.segments.specs.declared.size_data.ComponentSizeInfo.{ComponentSizeInfo}
use Rattle.settings.specs.declared.rows.ComponentSettings.{ComponentSettings}
use Rattle.settings.specs.declared.rows.TileRow.{TileRow}
use Rattle.settings.specs.declared.rows.PackedRow.{PackedRow}
use Rattle.settings.specs.declared.rows.PartRow.{PartRow}

pub record BlankComponent (c : ComponentSizeInfo) : Type 0 where
  pub precision : c.precision ≡ 1
  pub xrsiz : c.xrsiz ≡ 1
  pub yrsiz : c.yrsiz ≡ 1

abbrev pub plain_style : CodeBlockStyle
plain_style = record { bypass = false; reset = false; termination = false; causal = false; segmentation = false }

pub record BlankParameters (p : CodingStyleParameters) : Type 0 where
  pub levels : p.levels ≡ 0
  pub width : p.width ≡ 2
  pub height : p.height ≡ 2
  pub style : p.style ≡ plain_style
  pub transformation : p.transformation ≡ Irreversible97
  pub widths : widths_of p.precincts ≡ replicate 33 0
  pub heights : heights_of p.precincts ≡ replicate 33 0

abbrev pub blank_quantization : QuantizationInfo
blank_quantization = record { style = NoQuantization; guard = 0; steps = replicate 97 (record { mantissa = 0; exponent = 0 }); count = 0 }

pub record BlankSettings (s : ComponentSettings) : Type 0 where
  pub flags : s.flags.raw ≡ 0
  pub parameters : BlankParameters s.parameters
  pub quantization : s.quantization ≡ blank_quantization
  pub coc : s.coc ≡ false
  pub qcc : s.qcc ≡ false

abbrev pub blank_tile : TileRow
blank_tile =
    record {
      area = record { x0 = 0; y0 = 0; x1 = 0; y1 = 0 };
      progression = LayerResolutionComponentPosition;
      layers = 0;
      mct = false;
    }

abbrev pub blank_packed : PackedRow
blank_packed = record { index = 0; place = 0; len = 0 }

abbrev pub blank_part : PartRow
blank_part = record { tile = 0; place = 0; len = 0; header = 0; headers = 0 }
