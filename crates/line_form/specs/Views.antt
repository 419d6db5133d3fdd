-- A tag, and the site of an S line, in the code and in the definitions of document 01.
use Rattle.std.specs.Prelude.{Option, Some, None}
use Rattle.meaning.specs.Filing as meant
use Rattle.meaning.specs.Filing.{no_meter, curve_meter, index_meter, site}
use Rattle.meaning.specs.Line as lines
use Rattle.rounding.specs.Units.{in_w}
use Rattle.line_form.specs.declared.Tag.{Tag}
use Rattle.line_form.specs.declared.Tag.TheVariants.{S, C, X, D, P, B, R, E}
use Rattle.line_form.specs.declared.Meter.{Meter}
use Rattle.line_form.specs.declared.Meter.TheVariants.{Curve, Index}
use Rattle.line_form.specs.declared.Site.{Site}

abbrev pub tag_view : Tag → lines.Tag
tag_view S = lines.S
tag_view C = lines.C
tag_view X = lines.X
tag_view D = lines.D
tag_view P = lines.P
tag_view B = lines.B
tag_view R = lines.R
tag_view E = lines.E

-- a tag, or none: `other` stands for both an unknown tag and none
abbrev pub known_view : Option Tag → lines.Tag
known_view None = lines.other
known_view (Some t) = tag_view t

abbrev pub meter_view : Option Meter → meant.Meter
meter_view None = no_meter
meter_view (Some Curve) = curve_meter
meter_view (Some Index) = index_meter

abbrev pub site_view : Site → meant.Site
site_view s = site s.al s.filiere (meter_view s.meter) s.ps.0

-- from the definitions to the code
abbrev pub meter_repr : meant.Meter → Option Meter
meter_repr no_meter = None
meter_repr curve_meter = Some Curve
meter_repr index_meter = Some Index

abbrev pub site_repr : meant.Site → Site
site_repr s = record { al = s.al; filiere = s.filiere; meter = meter_repr s.meter; ps = in_w s.ps }
