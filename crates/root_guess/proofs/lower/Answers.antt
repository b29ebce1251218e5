-- Made by tests/written/root_list.py. `lower` answers the list's entry: in each arm by looking it up, and there is no other. Assumes nothing.
use native.Mathlib.Omega.{arith}
use Rattle.root_list.specs.Guesses.{guesses}
use Rattle.root_guess.proofs.Keys.{at_key, past-keys}
use Rattle.root_guess.proofs.lower.Goals as goal

pub returns-in-0 : goal.returns-in-0
returns-in-0 c = at_key guesses _ 0 c.in-0.is

pub returns-in-1 : goal.returns-in-1
returns-in-1 c = at_key guesses _ 1 c.in-1.is

pub returns-in-2 : goal.returns-in-2
returns-in-2 c = at_key guesses _ 2 c.in-2.is

pub returns-in-3 : goal.returns-in-3
returns-in-3 c = at_key guesses _ 3 c.in-3.is

pub returns-in-4 : goal.returns-in-4
returns-in-4 c = at_key guesses _ 4 c.in-4.is

pub returns-in-5 : goal.returns-in-5
returns-in-5 c = at_key guesses _ 5 c.in-5.is

pub returns-in-6 : goal.returns-in-6
returns-in-6 c = at_key guesses _ 6 c.in-6.is

pub returns-in-7 : goal.returns-in-7
returns-in-7 c = at_key guesses _ 7 c.in-7.is

pub returns-in-8 : goal.returns-in-8
returns-in-8 c = at_key guesses _ 8 c.in-8.is

pub returns-in-9 : goal.returns-in-9
returns-in-9 c = at_key guesses _ 9 c.in-9.is

pub returns-in-10 : goal.returns-in-10
returns-in-10 c = at_key guesses _ 10 c.in-10.is

pub returns-in-11 : goal.returns-in-11
returns-in-11 c = at_key guesses _ 11 c.in-11.is

pub returns-in-12 : goal.returns-in-12
returns-in-12 c = at_key guesses _ 12 c.in-12.is

pub returns-in-13 : goal.returns-in-13
returns-in-13 c = at_key guesses _ 13 c.in-13.is

pub returns-in-14 : goal.returns-in-14
returns-in-14 c = at_key guesses _ 14 c.in-14.is

pub returns-in-15 : goal.returns-in-15
returns-in-15 c = at_key guesses _ 15 c.in-15.is

pub returns-in-16 : goal.returns-in-16
returns-in-16 c = at_key guesses _ 16 c.in-16.is

pub returns-in-17 : goal.returns-in-17
returns-in-17 c = at_key guesses _ 17 c.in-17.is

pub returns-in-18 : goal.returns-in-18
returns-in-18 c = at_key guesses _ 18 c.in-18.is

pub returns-in-19 : goal.returns-in-19
returns-in-19 c = at_key guesses _ 19 c.in-19.is

pub returns-in-20 : goal.returns-in-20
returns-in-20 c = at_key guesses _ 20 c.in-20.is

pub returns-in-21 : goal.returns-in-21
returns-in-21 c = at_key guesses _ 21 c.in-21.is

pub returns-in-22 : goal.returns-in-22
returns-in-22 c = at_key guesses _ 22 c.in-22.is

pub returns-in-23 : goal.returns-in-23
returns-in-23 c = at_key guesses _ 23 c.in-23.is

pub returns-in-24 : goal.returns-in-24
returns-in-24 c = at_key guesses _ 24 c.in-24.is

pub returns-in-25 : goal.returns-in-25
returns-in-25 c = at_key guesses _ 25 c.in-25.is

pub returns-in-26 : goal.returns-in-26
returns-in-26 c = at_key guesses _ 26 c.in-26.is

pub returns-in-27 : goal.returns-in-27
returns-in-27 c = at_key guesses _ 27 c.in-27.is

pub returns-in-28 : goal.returns-in-28
returns-in-28 c = at_key guesses _ 28 c.in-28.is

pub returns-in-29 : goal.returns-in-29
returns-in-29 c = at_key guesses _ 29 c.in-29.is

pub returns-in-30 : goal.returns-in-30
returns-in-30 c = at_key guesses _ 30 c.in-30.is

pub returns-in-31 : goal.returns-in-31
returns-in-31 c = at_key guesses _ 31 c.in-31.is

pub returns-in-32 : goal.returns-in-32
returns-in-32 c = at_key guesses _ 32 c.in-32.is

pub returns-in-33 : goal.returns-in-33
returns-in-33 c = at_key guesses _ 33 c.in-33.is

pub returns-in-34 : goal.returns-in-34
returns-in-34 c = at_key guesses _ 34 c.in-34.is

pub returns-in-35 : goal.returns-in-35
returns-in-35 c = at_key guesses _ 35 c.in-35.is

pub returns-in-36 : goal.returns-in-36
returns-in-36 c = at_key guesses _ 36 c.in-36.is

pub returns-in-37 : goal.returns-in-37
returns-in-37 c = at_key guesses _ 37 c.in-37.is

pub returns-in-38 : goal.returns-in-38
returns-in-38 c = at_key guesses _ 38 c.in-38.is

pub returns-in-39 : goal.returns-in-39
returns-in-39 c = at_key guesses _ 39 c.in-39.is

pub returns-in-40 : goal.returns-in-40
returns-in-40 c = at_key guesses _ 40 c.in-40.is

pub returns-in-41 : goal.returns-in-41
returns-in-41 c = at_key guesses _ 41 c.in-41.is

pub returns-in-42 : goal.returns-in-42
returns-in-42 c = at_key guesses _ 42 c.in-42.is

pub returns-in-43 : goal.returns-in-43
returns-in-43 c = at_key guesses _ 43 c.in-43.is

pub returns-in-44 : goal.returns-in-44
returns-in-44 c = at_key guesses _ 44 c.in-44.is

pub returns-in-45 : goal.returns-in-45
returns-in-45 c = at_key guesses _ 45 c.in-45.is

pub returns-in-46 : goal.returns-in-46
returns-in-46 c = at_key guesses _ 46 c.in-46.is

pub returns-in-47 : goal.returns-in-47
returns-in-47 c = at_key guesses _ 47 c.in-47.is

pub returns-in-48 : goal.returns-in-48
returns-in-48 c = at_key guesses _ 48 c.in-48.is

pub returns-in-49 : goal.returns-in-49
returns-in-49 c = at_key guesses _ 49 c.in-49.is

pub returns-in-50 : goal.returns-in-50
returns-in-50 c = at_key guesses _ 50 c.in-50.is

pub returns-in-51 : goal.returns-in-51
returns-in-51 c = at_key guesses _ 51 c.in-51.is

pub returns-in-52 : goal.returns-in-52
returns-in-52 c = at_key guesses _ 52 c.in-52.is

pub returns-in-53 : goal.returns-in-53
returns-in-53 c = at_key guesses _ 53 c.in-53.is

pub returns-in-54 : goal.returns-in-54
returns-in-54 c = at_key guesses _ 54 c.in-54.is

pub returns-in-55 : goal.returns-in-55
returns-in-55 c = at_key guesses _ 55 c.in-55.is

pub returns-in-56 : goal.returns-in-56
returns-in-56 c = at_key guesses _ 56 c.in-56.is

pub returns-in-57 : goal.returns-in-57
returns-in-57 c = at_key guesses _ 57 c.in-57.is

pub returns-in-58 : goal.returns-in-58
returns-in-58 c = at_key guesses _ 58 c.in-58.is

pub returns-in-59 : goal.returns-in-59
returns-in-59 c = at_key guesses _ 59 c.in-59.is

pub returns-in-60 : goal.returns-in-60
returns-in-60 c = at_key guesses _ 60 c.in-60.is

pub returns-in-61 : goal.returns-in-61
returns-in-61 c = at_key guesses _ 61 c.in-61.is

pub returns-in-62 : goal.returns-in-62
returns-in-62 c = at_key guesses _ 62 c.in-62.is

pub returns-in-63 : goal.returns-in-63
returns-in-63 c = at_key guesses _ 63 c.in-63.is

pub returns-in-64 : goal.returns-in-64
returns-in-64 c = at_key guesses _ 64 c.in-64.is

pub returns-in-65 : goal.returns-in-65
returns-in-65 c = at_key guesses _ 65 c.in-65.is

pub returns-in-66 : goal.returns-in-66
returns-in-66 c = at_key guesses _ 66 c.in-66.is

pub returns-in-67 : goal.returns-in-67
returns-in-67 c = at_key guesses _ 67 c.in-67.is

pub returns-in-68 : goal.returns-in-68
returns-in-68 c = at_key guesses _ 68 c.in-68.is

pub returns-in-69 : goal.returns-in-69
returns-in-69 c = at_key guesses _ 69 c.in-69.is

pub returns-in-70 : goal.returns-in-70
returns-in-70 c = at_key guesses _ 70 c.in-70.is

pub returns-in-71 : goal.returns-in-71
returns-in-71 c = at_key guesses _ 71 c.in-71.is

pub returns-in-72 : goal.returns-in-72
returns-in-72 c = at_key guesses _ 72 c.in-72.is

pub returns-in-73 : goal.returns-in-73
returns-in-73 c = at_key guesses _ 73 c.in-73.is

pub returns-in-74 : goal.returns-in-74
returns-in-74 c = at_key guesses _ 74 c.in-74.is

pub returns-in-75 : goal.returns-in-75
returns-in-75 c = at_key guesses _ 75 c.in-75.is

pub returns-in-76 : goal.returns-in-76
returns-in-76 c = at_key guesses _ 76 c.in-76.is

pub returns-in-77 : goal.returns-in-77
returns-in-77 c = at_key guesses _ 77 c.in-77.is

pub returns-in-78 : goal.returns-in-78
returns-in-78 c = at_key guesses _ 78 c.in-78.is

pub returns-in-79 : goal.returns-in-79
returns-in-79 c = at_key guesses _ 79 c.in-79.is

pub returns-in-80 : goal.returns-in-80
returns-in-80 c = at_key guesses _ 80 c.in-80.is

pub returns-in-81 : goal.returns-in-81
returns-in-81 c = at_key guesses _ 81 c.in-81.is

pub returns-in-82 : goal.returns-in-82
returns-in-82 c = at_key guesses _ 82 c.in-82.is

pub returns-in-83 : goal.returns-in-83
returns-in-83 c = at_key guesses _ 83 c.in-83.is

pub returns-in-84 : goal.returns-in-84
returns-in-84 c = at_key guesses _ 84 c.in-84.is

pub returns-in-85 : goal.returns-in-85
returns-in-85 c = at_key guesses _ 85 c.in-85.is

pub returns-in-86 : goal.returns-in-86
returns-in-86 c = at_key guesses _ 86 c.in-86.is

pub returns-in-87 : goal.returns-in-87
returns-in-87 c = at_key guesses _ 87 c.in-87.is

pub returns-in-88 : goal.returns-in-88
returns-in-88 c = at_key guesses _ 88 c.in-88.is

pub returns-in-89 : goal.returns-in-89
returns-in-89 c = at_key guesses _ 89 c.in-89.is

pub returns-in-90 : goal.returns-in-90
returns-in-90 c = at_key guesses _ 90 c.in-90.is

pub returns-in-91 : goal.returns-in-91
returns-in-91 c = at_key guesses _ 91 c.in-91.is

pub returns-in-92 : goal.returns-in-92
returns-in-92 c = at_key guesses _ 92 c.in-92.is

pub returns-in-93 : goal.returns-in-93
returns-in-93 c = at_key guesses _ 93 c.in-93.is

pub returns-in-94 : goal.returns-in-94
returns-in-94 c = at_key guesses _ 94 c.in-94.is

pub returns-in-95 : goal.returns-in-95
returns-in-95 c = at_key guesses _ 95 c.in-95.is

pub returns-in-96 : goal.returns-in-96
returns-in-96 c = at_key guesses _ 96 c.in-96.is

pub returns-in-97 : goal.returns-in-97
returns-in-97 c = at_key guesses _ 97 c.in-97.is

pub returns-in-98 : goal.returns-in-98
returns-in-98 c = at_key guesses _ 98 c.in-98.is

pub returns-in-99 : goal.returns-in-99
returns-in-99 c = at_key guesses _ 99 c.in-99.is

pub returns-in-100 : goal.returns-in-100
returns-in-100 c = at_key guesses _ 100 c.in-100.is

pub returns-in-101 : goal.returns-in-101
returns-in-101 c = at_key guesses _ 101 c.in-101.is

pub returns-in-102 : goal.returns-in-102
returns-in-102 c = at_key guesses _ 102 c.in-102.is

pub returns-in-103 : goal.returns-in-103
returns-in-103 c = at_key guesses _ 103 c.in-103.is

pub returns-in-104 : goal.returns-in-104
returns-in-104 c = at_key guesses _ 104 c.in-104.is

pub returns-in-105 : goal.returns-in-105
returns-in-105 c = at_key guesses _ 105 c.in-105.is

pub returns-in-106 : goal.returns-in-106
returns-in-106 c = at_key guesses _ 106 c.in-106.is

pub returns-in-107 : goal.returns-in-107
returns-in-107 c = at_key guesses _ 107 c.in-107.is

pub returns-in-108 : goal.returns-in-108
returns-in-108 c = at_key guesses _ 108 c.in-108.is

pub returns-in-109 : goal.returns-in-109
returns-in-109 c = at_key guesses _ 109 c.in-109.is

pub returns-in-110 : goal.returns-in-110
returns-in-110 c = at_key guesses _ 110 c.in-110.is

pub returns-in-111 : goal.returns-in-111
returns-in-111 c = at_key guesses _ 111 c.in-111.is

pub returns-in-112 : goal.returns-in-112
returns-in-112 c = at_key guesses _ 112 c.in-112.is

pub returns-in-113 : goal.returns-in-113
returns-in-113 c = at_key guesses _ 113 c.in-113.is

pub returns-in-114 : goal.returns-in-114
returns-in-114 c = at_key guesses _ 114 c.in-114.is

pub returns-in-115 : goal.returns-in-115
returns-in-115 c = at_key guesses _ 115 c.in-115.is

pub returns-in-116 : goal.returns-in-116
returns-in-116 c = at_key guesses _ 116 c.in-116.is

pub returns-in-117 : goal.returns-in-117
returns-in-117 c = at_key guesses _ 117 c.in-117.is

pub returns-in-118 : goal.returns-in-118
returns-in-118 c = at_key guesses _ 118 c.in-118.is

pub returns-in-119 : goal.returns-in-119
returns-in-119 c = at_key guesses _ 119 c.in-119.is

pub returns-in-120 : goal.returns-in-120
returns-in-120 c = at_key guesses _ 120 c.in-120.is

pub returns-in-121 : goal.returns-in-121
returns-in-121 c = at_key guesses _ 121 c.in-121.is

pub returns-in-122 : goal.returns-in-122
returns-in-122 c = at_key guesses _ 122 c.in-122.is

pub returns-in-123 : goal.returns-in-123
returns-in-123 c = at_key guesses _ 123 c.in-123.is

pub returns-in-124 : goal.returns-in-124
returns-in-124 c = at_key guesses _ 124 c.in-124.is

pub returns-in-125 : goal.returns-in-125
returns-in-125 c = at_key guesses _ 125 c.in-125.is

pub returns-in-126 : goal.returns-in-126
returns-in-126 c = at_key guesses _ 126 c.in-126.is

pub returns-in-127 : goal.returns-in-127
returns-in-127 c = at_key guesses _ 127 c.in-127.is

pub returns-in-128 : goal.returns-in-128
returns-in-128 c = at_key guesses _ 128 c.in-128.is

pub returns-in-129 : goal.returns-in-129
returns-in-129 c = at_key guesses _ 129 c.in-129.is

pub returns-in-130 : goal.returns-in-130
returns-in-130 c = at_key guesses _ 130 c.in-130.is

pub returns-in-131 : goal.returns-in-131
returns-in-131 c = at_key guesses _ 131 c.in-131.is

pub returns-in-132 : goal.returns-in-132
returns-in-132 c = at_key guesses _ 132 c.in-132.is

pub returns-in-133 : goal.returns-in-133
returns-in-133 c = at_key guesses _ 133 c.in-133.is

pub returns-in-134 : goal.returns-in-134
returns-in-134 c = at_key guesses _ 134 c.in-134.is

pub returns-in-135 : goal.returns-in-135
returns-in-135 c = at_key guesses _ 135 c.in-135.is

pub returns-in-136 : goal.returns-in-136
returns-in-136 c = at_key guesses _ 136 c.in-136.is

pub returns-in-137 : goal.returns-in-137
returns-in-137 c = at_key guesses _ 137 c.in-137.is

pub returns-in-138 : goal.returns-in-138
returns-in-138 c = at_key guesses _ 138 c.in-138.is

pub returns-in-139 : goal.returns-in-139
returns-in-139 c = at_key guesses _ 139 c.in-139.is

pub returns-in-140 : goal.returns-in-140
returns-in-140 c = at_key guesses _ 140 c.in-140.is

pub returns-in-141 : goal.returns-in-141
returns-in-141 c = at_key guesses _ 141 c.in-141.is

pub returns-in-142 : goal.returns-in-142
returns-in-142 c = at_key guesses _ 142 c.in-142.is

pub returns-in-143 : goal.returns-in-143
returns-in-143 c = at_key guesses _ 143 c.in-143.is

pub returns-in-144 : goal.returns-in-144
returns-in-144 c = at_key guesses _ 144 c.in-144.is

pub returns-in-145 : goal.returns-in-145
returns-in-145 c = at_key guesses _ 145 c.in-145.is

pub returns-in-146 : goal.returns-in-146
returns-in-146 c = at_key guesses _ 146 c.in-146.is

pub returns-in-147 : goal.returns-in-147
returns-in-147 c = at_key guesses _ 147 c.in-147.is

pub returns-in-148 : goal.returns-in-148
returns-in-148 c = at_key guesses _ 148 c.in-148.is

pub returns-in-149 : goal.returns-in-149
returns-in-149 c = at_key guesses _ 149 c.in-149.is

pub returns-in-150 : goal.returns-in-150
returns-in-150 c = at_key guesses _ 150 c.in-150.is

pub returns-in-151 : goal.returns-in-151
returns-in-151 c = at_key guesses _ 151 c.in-151.is

pub returns-in-152 : goal.returns-in-152
returns-in-152 c = at_key guesses _ 152 c.in-152.is

pub returns-in-153 : goal.returns-in-153
returns-in-153 c = at_key guesses _ 153 c.in-153.is

pub returns-in-154 : goal.returns-in-154
returns-in-154 c = at_key guesses _ 154 c.in-154.is

pub returns-in-155 : goal.returns-in-155
returns-in-155 c = at_key guesses _ 155 c.in-155.is

pub returns-in-156 : goal.returns-in-156
returns-in-156 c = at_key guesses _ 156 c.in-156.is

pub returns-in-157 : goal.returns-in-157
returns-in-157 c = at_key guesses _ 157 c.in-157.is

pub returns-in-158 : goal.returns-in-158
returns-in-158 c = at_key guesses _ 158 c.in-158.is

pub returns-in-159 : goal.returns-in-159
returns-in-159 c = at_key guesses _ 159 c.in-159.is

pub returns-in-160 : goal.returns-in-160
returns-in-160 c = at_key guesses _ 160 c.in-160.is

pub returns-in-161 : goal.returns-in-161
returns-in-161 c = at_key guesses _ 161 c.in-161.is

pub returns-in-162 : goal.returns-in-162
returns-in-162 c = at_key guesses _ 162 c.in-162.is

pub returns-in-163 : goal.returns-in-163
returns-in-163 c = at_key guesses _ 163 c.in-163.is

pub returns-in-164 : goal.returns-in-164
returns-in-164 c = at_key guesses _ 164 c.in-164.is

pub returns-in-165 : goal.returns-in-165
returns-in-165 c = at_key guesses _ 165 c.in-165.is

pub returns-in-166 : goal.returns-in-166
returns-in-166 c = at_key guesses _ 166 c.in-166.is

pub returns-in-167 : goal.returns-in-167
returns-in-167 c = at_key guesses _ 167 c.in-167.is

pub returns-in-168 : goal.returns-in-168
returns-in-168 c = at_key guesses _ 168 c.in-168.is

pub returns-in-169 : goal.returns-in-169
returns-in-169 c = at_key guesses _ 169 c.in-169.is

pub returns-in-170 : goal.returns-in-170
returns-in-170 c = at_key guesses _ 170 c.in-170.is

pub returns-in-171 : goal.returns-in-171
returns-in-171 c = at_key guesses _ 171 c.in-171.is

pub returns-in-172 : goal.returns-in-172
returns-in-172 c = at_key guesses _ 172 c.in-172.is

pub returns-in-173 : goal.returns-in-173
returns-in-173 c = at_key guesses _ 173 c.in-173.is

pub returns-in-174 : goal.returns-in-174
returns-in-174 c = at_key guesses _ 174 c.in-174.is

pub returns-in-175 : goal.returns-in-175
returns-in-175 c = at_key guesses _ 175 c.in-175.is

pub returns-in-176 : goal.returns-in-176
returns-in-176 c = at_key guesses _ 176 c.in-176.is

pub returns-in-177 : goal.returns-in-177
returns-in-177 c = at_key guesses _ 177 c.in-177.is

pub returns-in-178 : goal.returns-in-178
returns-in-178 c = at_key guesses _ 178 c.in-178.is

pub returns-in-179 : goal.returns-in-179
returns-in-179 c = at_key guesses _ 179 c.in-179.is

pub returns-in-180 : goal.returns-in-180
returns-in-180 c = at_key guesses _ 180 c.in-180.is

pub returns-in-181 : goal.returns-in-181
returns-in-181 c = at_key guesses _ 181 c.in-181.is

pub returns-in-182 : goal.returns-in-182
returns-in-182 c = at_key guesses _ 182 c.in-182.is

pub returns-in-183 : goal.returns-in-183
returns-in-183 c = at_key guesses _ 183 c.in-183.is

pub returns-in-184 : goal.returns-in-184
returns-in-184 c = at_key guesses _ 184 c.in-184.is

pub returns-in-185 : goal.returns-in-185
returns-in-185 c = at_key guesses _ 185 c.in-185.is

pub returns-in-186 : goal.returns-in-186
returns-in-186 c = at_key guesses _ 186 c.in-186.is

pub returns-in-187 : goal.returns-in-187
returns-in-187 c = at_key guesses _ 187 c.in-187.is

pub returns-in-188 : goal.returns-in-188
returns-in-188 c = at_key guesses _ 188 c.in-188.is

pub returns-in-189 : goal.returns-in-189
returns-in-189 c = at_key guesses _ 189 c.in-189.is

pub returns-in-190 : goal.returns-in-190
returns-in-190 c = at_key guesses _ 190 c.in-190.is

pub returns-in-191 : goal.returns-in-191
returns-in-191 c = at_key guesses _ 191 c.in-191.is

pub returns-in-192 : goal.returns-in-192
returns-in-192 c = at_key guesses _ 192 c.in-192.is

pub returns-in-193 : goal.returns-in-193
returns-in-193 c = at_key guesses _ 193 c.in-193.is

pub returns-in-194 : goal.returns-in-194
returns-in-194 c = at_key guesses _ 194 c.in-194.is

pub returns-in-195 : goal.returns-in-195
returns-in-195 c = at_key guesses _ 195 c.in-195.is

pub returns-in-196 : goal.returns-in-196
returns-in-196 c = at_key guesses _ 196 c.in-196.is

pub returns-in-197 : goal.returns-in-197
returns-in-197 c = at_key guesses _ 197 c.in-197.is

pub returns-in-198 : goal.returns-in-198
returns-in-198 c = at_key guesses _ 198 c.in-198.is

pub returns-in-199 : goal.returns-in-199
returns-in-199 c = at_key guesses _ 199 c.in-199.is

pub returns-in-200 : goal.returns-in-200
returns-in-200 c = at_key guesses _ 200 c.in-200.is

pub returns-in-201 : goal.returns-in-201
returns-in-201 c = at_key guesses _ 201 c.in-201.is

pub returns-in-202 : goal.returns-in-202
returns-in-202 c = at_key guesses _ 202 c.in-202.is

pub returns-in-203 : goal.returns-in-203
returns-in-203 c = at_key guesses _ 203 c.in-203.is

pub returns-in-204 : goal.returns-in-204
returns-in-204 c = at_key guesses _ 204 c.in-204.is

pub returns-in-205 : goal.returns-in-205
returns-in-205 c = at_key guesses _ 205 c.in-205.is

pub returns-in-206 : goal.returns-in-206
returns-in-206 c = at_key guesses _ 206 c.in-206.is

pub returns-in-207 : goal.returns-in-207
returns-in-207 c = at_key guesses _ 207 c.in-207.is

pub returns-in-208 : goal.returns-in-208
returns-in-208 c = at_key guesses _ 208 c.in-208.is

pub returns-in-209 : goal.returns-in-209
returns-in-209 c = at_key guesses _ 209 c.in-209.is

pub returns-in-210 : goal.returns-in-210
returns-in-210 c = at_key guesses _ 210 c.in-210.is

pub returns-in-211 : goal.returns-in-211
returns-in-211 c = at_key guesses _ 211 c.in-211.is

pub returns-in-212 : goal.returns-in-212
returns-in-212 c = at_key guesses _ 212 c.in-212.is

pub returns-in-213 : goal.returns-in-213
returns-in-213 c = at_key guesses _ 213 c.in-213.is

pub returns-in-214 : goal.returns-in-214
returns-in-214 c = at_key guesses _ 214 c.in-214.is

pub returns-in-215 : goal.returns-in-215
returns-in-215 c = at_key guesses _ 215 c.in-215.is

pub returns-in-216 : goal.returns-in-216
returns-in-216 c = at_key guesses _ 216 c.in-216.is

pub returns-in-217 : goal.returns-in-217
returns-in-217 c = at_key guesses _ 217 c.in-217.is

pub returns-in-218 : goal.returns-in-218
returns-in-218 c = at_key guesses _ 218 c.in-218.is

pub returns-in-219 : goal.returns-in-219
returns-in-219 c = at_key guesses _ 219 c.in-219.is

pub returns-in-220 : goal.returns-in-220
returns-in-220 c = at_key guesses _ 220 c.in-220.is

pub returns-in-221 : goal.returns-in-221
returns-in-221 c = at_key guesses _ 221 c.in-221.is

pub returns-in-222 : goal.returns-in-222
returns-in-222 c = at_key guesses _ 222 c.in-222.is

pub returns-in-223 : goal.returns-in-223
returns-in-223 c = at_key guesses _ 223 c.in-223.is

pub returns-in-224 : goal.returns-in-224
returns-in-224 c = at_key guesses _ 224 c.in-224.is

pub returns-in-225 : goal.returns-in-225
returns-in-225 c = at_key guesses _ 225 c.in-225.is

pub returns-in-226 : goal.returns-in-226
returns-in-226 c = at_key guesses _ 226 c.in-226.is

pub returns-in-227 : goal.returns-in-227
returns-in-227 c = at_key guesses _ 227 c.in-227.is

pub returns-in-228 : goal.returns-in-228
returns-in-228 c = at_key guesses _ 228 c.in-228.is

pub returns-in-229 : goal.returns-in-229
returns-in-229 c = at_key guesses _ 229 c.in-229.is

pub returns-in-230 : goal.returns-in-230
returns-in-230 c = at_key guesses _ 230 c.in-230.is

pub returns-in-231 : goal.returns-in-231
returns-in-231 c = at_key guesses _ 231 c.in-231.is

pub returns-in-232 : goal.returns-in-232
returns-in-232 c = at_key guesses _ 232 c.in-232.is

pub returns-in-233 : goal.returns-in-233
returns-in-233 c = at_key guesses _ 233 c.in-233.is

pub returns-in-234 : goal.returns-in-234
returns-in-234 c = at_key guesses _ 234 c.in-234.is

pub returns-in-235 : goal.returns-in-235
returns-in-235 c = at_key guesses _ 235 c.in-235.is

pub returns-in-236 : goal.returns-in-236
returns-in-236 c = at_key guesses _ 236 c.in-236.is

pub returns-in-237 : goal.returns-in-237
returns-in-237 c = at_key guesses _ 237 c.in-237.is

pub returns-in-238 : goal.returns-in-238
returns-in-238 c = at_key guesses _ 238 c.in-238.is

pub returns-in-239 : goal.returns-in-239
returns-in-239 c = at_key guesses _ 239 c.in-239.is

pub returns-in-240 : goal.returns-in-240
returns-in-240 c = at_key guesses _ 240 c.in-240.is

pub returns-in-241 : goal.returns-in-241
returns-in-241 c = at_key guesses _ 241 c.in-241.is

pub returns-in-242 : goal.returns-in-242
returns-in-242 c = at_key guesses _ 242 c.in-242.is

pub returns-in-243 : goal.returns-in-243
returns-in-243 c = at_key guesses _ 243 c.in-243.is

pub returns-in-244 : goal.returns-in-244
returns-in-244 c = at_key guesses _ 244 c.in-244.is

pub returns-in-245 : goal.returns-in-245
returns-in-245 c = at_key guesses _ 245 c.in-245.is

pub returns-in-246 : goal.returns-in-246
returns-in-246 c = at_key guesses _ 246 c.in-246.is

pub returns-in-247 : goal.returns-in-247
returns-in-247 c = at_key guesses _ 247 c.in-247.is

pub returns-in-248 : goal.returns-in-248
returns-in-248 c = at_key guesses _ 248 c.in-248.is

pub returns-in-249 : goal.returns-in-249
returns-in-249 c = at_key guesses _ 249 c.in-249.is

pub returns-in-250 : goal.returns-in-250
returns-in-250 c = at_key guesses _ 250 c.in-250.is

pub returns-in-251 : goal.returns-in-251
returns-in-251 c = at_key guesses _ 251 c.in-251.is

pub returns-in-252 : goal.returns-in-252
returns-in-252 c = at_key guesses _ 252 c.in-252.is

pub returns-in-253 : goal.returns-in-253
returns-in-253 c = at_key guesses _ 253 c.in-253.is

pub returns-in-254 : goal.returns-in-254
returns-in-254 c = at_key guesses _ 254 c.in-254.is

pub returns-in-255 : goal.returns-in-255
returns-in-255 c = at_key guesses _ 255 c.in-255.is

pub returns-in-256 : goal.returns-in-256
returns-in-256 c = at_key guesses _ 256 c.in-256.is

pub returns-in-257 : goal.returns-in-257
returns-in-257 c = at_key guesses _ 257 c.in-257.is

pub returns-in-258 : goal.returns-in-258
returns-in-258 c = at_key guesses _ 258 c.in-258.is

pub returns-in-259 : goal.returns-in-259
returns-in-259 c = at_key guesses _ 259 c.in-259.is

pub returns-in-260 : goal.returns-in-260
returns-in-260 c = at_key guesses _ 260 c.in-260.is

pub returns-in-261 : goal.returns-in-261
returns-in-261 c = at_key guesses _ 261 c.in-261.is

pub returns-in-262 : goal.returns-in-262
returns-in-262 c = at_key guesses _ 262 c.in-262.is

pub returns-in-263 : goal.returns-in-263
returns-in-263 c = at_key guesses _ 263 c.in-263.is

pub returns-in-264 : goal.returns-in-264
returns-in-264 c = at_key guesses _ 264 c.in-264.is

pub returns-in-265 : goal.returns-in-265
returns-in-265 c = at_key guesses _ 265 c.in-265.is

pub returns-in-266 : goal.returns-in-266
returns-in-266 c = at_key guesses _ 266 c.in-266.is

pub returns-in-267 : goal.returns-in-267
returns-in-267 c = at_key guesses _ 267 c.in-267.is

pub returns-in-268 : goal.returns-in-268
returns-in-268 c = at_key guesses _ 268 c.in-268.is

pub returns-in-269 : goal.returns-in-269
returns-in-269 c = at_key guesses _ 269 c.in-269.is

pub returns-in-270 : goal.returns-in-270
returns-in-270 c = at_key guesses _ 270 c.in-270.is

pub returns-in-271 : goal.returns-in-271
returns-in-271 c = at_key guesses _ 271 c.in-271.is

pub returns-in-272 : goal.returns-in-272
returns-in-272 c = at_key guesses _ 272 c.in-272.is

pub returns-in-273 : goal.returns-in-273
returns-in-273 c = at_key guesses _ 273 c.in-273.is

pub returns-in-274 : goal.returns-in-274
returns-in-274 c = at_key guesses _ 274 c.in-274.is

pub returns-in-275 : goal.returns-in-275
returns-in-275 c = at_key guesses _ 275 c.in-275.is

pub returns-in-276 : goal.returns-in-276
returns-in-276 c = at_key guesses _ 276 c.in-276.is

pub returns-in-277 : goal.returns-in-277
returns-in-277 c = at_key guesses _ 277 c.in-277.is

pub returns-in-278 : goal.returns-in-278
returns-in-278 c = at_key guesses _ 278 c.in-278.is

pub returns-in-279 : goal.returns-in-279
returns-in-279 c = at_key guesses _ 279 c.in-279.is

pub returns-in-280 : goal.returns-in-280
returns-in-280 c = at_key guesses _ 280 c.in-280.is

pub returns-in-281 : goal.returns-in-281
returns-in-281 c = at_key guesses _ 281 c.in-281.is

pub returns-in-282 : goal.returns-in-282
returns-in-282 c = at_key guesses _ 282 c.in-282.is

pub returns-in-283 : goal.returns-in-283
returns-in-283 c = at_key guesses _ 283 c.in-283.is

pub returns-in-284 : goal.returns-in-284
returns-in-284 c = at_key guesses _ 284 c.in-284.is

pub returns-in-285 : goal.returns-in-285
returns-in-285 c = at_key guesses _ 285 c.in-285.is

pub returns-in-286 : goal.returns-in-286
returns-in-286 c = at_key guesses _ 286 c.in-286.is

pub returns-in-287 : goal.returns-in-287
returns-in-287 c = at_key guesses _ 287 c.in-287.is

pub returns-in-288 : goal.returns-in-288
returns-in-288 c = at_key guesses _ 288 c.in-288.is

pub returns-in-289 : goal.returns-in-289
returns-in-289 c = at_key guesses _ 289 c.in-289.is

pub returns-in-290 : goal.returns-in-290
returns-in-290 c = at_key guesses _ 290 c.in-290.is

pub returns-in-291 : goal.returns-in-291
returns-in-291 c = at_key guesses _ 291 c.in-291.is

pub returns-in-292 : goal.returns-in-292
returns-in-292 c = at_key guesses _ 292 c.in-292.is

pub returns-in-293 : goal.returns-in-293
returns-in-293 c = at_key guesses _ 293 c.in-293.is

pub returns-in-294 : goal.returns-in-294
returns-in-294 c = at_key guesses _ 294 c.in-294.is

pub returns-in-295 : goal.returns-in-295
returns-in-295 c = at_key guesses _ 295 c.in-295.is

pub returns-in-296 : goal.returns-in-296
returns-in-296 c = at_key guesses _ 296 c.in-296.is

pub returns-in-297 : goal.returns-in-297
returns-in-297 c = at_key guesses _ 297 c.in-297.is

pub returns-in-298 : goal.returns-in-298
returns-in-298 c = at_key guesses _ 298 c.in-298.is

pub returns-in-299 : goal.returns-in-299
returns-in-299 c = at_key guesses _ 299 c.in-299.is

pub returns-in-300 : goal.returns-in-300
returns-in-300 c = at_key guesses _ 300 c.in-300.is

pub returns-in-301 : goal.returns-in-301
returns-in-301 c = at_key guesses _ 301 c.in-301.is

pub returns-in-302 : goal.returns-in-302
returns-in-302 c = at_key guesses _ 302 c.in-302.is

pub returns-in-303 : goal.returns-in-303
returns-in-303 c = at_key guesses _ 303 c.in-303.is

pub returns-in-304 : goal.returns-in-304
returns-in-304 c = at_key guesses _ 304 c.in-304.is

pub returns-in-305 : goal.returns-in-305
returns-in-305 c = at_key guesses _ 305 c.in-305.is

pub returns-in-306 : goal.returns-in-306
returns-in-306 c = at_key guesses _ 306 c.in-306.is

pub returns-in-307 : goal.returns-in-307
returns-in-307 c = at_key guesses _ 307 c.in-307.is

pub returns-in-308 : goal.returns-in-308
returns-in-308 c = at_key guesses _ 308 c.in-308.is

pub returns-in-309 : goal.returns-in-309
returns-in-309 c = at_key guesses _ 309 c.in-309.is

pub returns-in-310 : goal.returns-in-310
returns-in-310 c = at_key guesses _ 310 c.in-310.is

pub returns-in-311 : goal.returns-in-311
returns-in-311 c = at_key guesses _ 311 c.in-311.is

pub returns-in-312 : goal.returns-in-312
returns-in-312 c = at_key guesses _ 312 c.in-312.is

pub returns-in-313 : goal.returns-in-313
returns-in-313 c = at_key guesses _ 313 c.in-313.is

pub returns-in-314 : goal.returns-in-314
returns-in-314 c = at_key guesses _ 314 c.in-314.is

pub returns-in-315 : goal.returns-in-315
returns-in-315 c = at_key guesses _ 315 c.in-315.is

pub returns-in-316 : goal.returns-in-316
returns-in-316 c = at_key guesses _ 316 c.in-316.is

pub returns-in-317 : goal.returns-in-317
returns-in-317 c = at_key guesses _ 317 c.in-317.is

pub returns-in-318 : goal.returns-in-318
returns-in-318 c = at_key guesses _ 318 c.in-318.is

pub returns-in-319 : goal.returns-in-319
returns-in-319 c = at_key guesses _ 319 c.in-319.is

pub returns-in-320 : goal.returns-in-320
returns-in-320 c = at_key guesses _ 320 c.in-320.is

pub returns-in-321 : goal.returns-in-321
returns-in-321 c = at_key guesses _ 321 c.in-321.is

pub returns-in-322 : goal.returns-in-322
returns-in-322 c = at_key guesses _ 322 c.in-322.is

pub returns-in-323 : goal.returns-in-323
returns-in-323 c = at_key guesses _ 323 c.in-323.is

pub returns-in-324 : goal.returns-in-324
returns-in-324 c = at_key guesses _ 324 c.in-324.is

pub returns-in-325 : goal.returns-in-325
returns-in-325 c = at_key guesses _ 325 c.in-325.is

pub returns-in-326 : goal.returns-in-326
returns-in-326 c = at_key guesses _ 326 c.in-326.is

pub returns-in-327 : goal.returns-in-327
returns-in-327 c = at_key guesses _ 327 c.in-327.is

pub returns-in-328 : goal.returns-in-328
returns-in-328 c = at_key guesses _ 328 c.in-328.is

pub returns-in-329 : goal.returns-in-329
returns-in-329 c = at_key guesses _ 329 c.in-329.is

pub returns-in-330 : goal.returns-in-330
returns-in-330 c = at_key guesses _ 330 c.in-330.is

pub returns-in-331 : goal.returns-in-331
returns-in-331 c = at_key guesses _ 331 c.in-331.is

pub returns-in-332 : goal.returns-in-332
returns-in-332 c = at_key guesses _ 332 c.in-332.is

pub returns-in-333 : goal.returns-in-333
returns-in-333 c = at_key guesses _ 333 c.in-333.is

pub returns-in-334 : goal.returns-in-334
returns-in-334 c = at_key guesses _ 334 c.in-334.is

pub returns-in-335 : goal.returns-in-335
returns-in-335 c = at_key guesses _ 335 c.in-335.is

pub returns-in-336 : goal.returns-in-336
returns-in-336 c = at_key guesses _ 336 c.in-336.is

pub returns-in-337 : goal.returns-in-337
returns-in-337 c = at_key guesses _ 337 c.in-337.is

pub returns-in-338 : goal.returns-in-338
returns-in-338 c = at_key guesses _ 338 c.in-338.is

pub returns-in-339 : goal.returns-in-339
returns-in-339 c = at_key guesses _ 339 c.in-339.is

pub returns-in-340 : goal.returns-in-340
returns-in-340 c = at_key guesses _ 340 c.in-340.is

pub returns-in-341 : goal.returns-in-341
returns-in-341 c = at_key guesses _ 341 c.in-341.is

pub returns-in-342 : goal.returns-in-342
returns-in-342 c = at_key guesses _ 342 c.in-342.is

pub returns-in-343 : goal.returns-in-343
returns-in-343 c = at_key guesses _ 343 c.in-343.is

pub returns-in-344 : goal.returns-in-344
returns-in-344 c = at_key guesses _ 344 c.in-344.is

pub returns-in-345 : goal.returns-in-345
returns-in-345 c = at_key guesses _ 345 c.in-345.is

pub returns-in-346 : goal.returns-in-346
returns-in-346 c = at_key guesses _ 346 c.in-346.is

pub returns-in-347 : goal.returns-in-347
returns-in-347 c = at_key guesses _ 347 c.in-347.is

pub returns-in-348 : goal.returns-in-348
returns-in-348 c = at_key guesses _ 348 c.in-348.is

pub returns-in-349 : goal.returns-in-349
returns-in-349 c = at_key guesses _ 349 c.in-349.is

pub returns-in-350 : goal.returns-in-350
returns-in-350 c = at_key guesses _ 350 c.in-350.is

pub returns-in-351 : goal.returns-in-351
returns-in-351 c = at_key guesses _ 351 c.in-351.is

pub returns-in-352 : goal.returns-in-352
returns-in-352 c = at_key guesses _ 352 c.in-352.is

pub returns-in-353 : goal.returns-in-353
returns-in-353 c = at_key guesses _ 353 c.in-353.is

pub returns-in-354 : goal.returns-in-354
returns-in-354 c = at_key guesses _ 354 c.in-354.is

pub returns-in-355 : goal.returns-in-355
returns-in-355 c = at_key guesses _ 355 c.in-355.is

pub returns-in-356 : goal.returns-in-356
returns-in-356 c = at_key guesses _ 356 c.in-356.is

pub returns-in-357 : goal.returns-in-357
returns-in-357 c = at_key guesses _ 357 c.in-357.is

pub returns-in-358 : goal.returns-in-358
returns-in-358 c = at_key guesses _ 358 c.in-358.is

pub returns-in-359 : goal.returns-in-359
returns-in-359 c = at_key guesses _ 359 c.in-359.is

pub returns-in-360 : goal.returns-in-360
returns-in-360 c = at_key guesses _ 360 c.in-360.is

pub returns-in-361 : goal.returns-in-361
returns-in-361 c = at_key guesses _ 361 c.in-361.is

pub returns-in-362 : goal.returns-in-362
returns-in-362 c = at_key guesses _ 362 c.in-362.is

pub returns-in-363 : goal.returns-in-363
returns-in-363 c = at_key guesses _ 363 c.in-363.is

pub returns-in-364 : goal.returns-in-364
returns-in-364 c = at_key guesses _ 364 c.in-364.is

pub returns-in-365 : goal.returns-in-365
returns-in-365 c = at_key guesses _ 365 c.in-365.is

pub returns-in-366 : goal.returns-in-366
returns-in-366 c = at_key guesses _ 366 c.in-366.is

pub returns-in-367 : goal.returns-in-367
returns-in-367 c = at_key guesses _ 367 c.in-367.is

pub returns-in-368 : goal.returns-in-368
returns-in-368 c = at_key guesses _ 368 c.in-368.is

pub returns-in-369 : goal.returns-in-369
returns-in-369 c = at_key guesses _ 369 c.in-369.is

pub returns-in-370 : goal.returns-in-370
returns-in-370 c = at_key guesses _ 370 c.in-370.is

pub returns-in-371 : goal.returns-in-371
returns-in-371 c = at_key guesses _ 371 c.in-371.is

pub returns-in-372 : goal.returns-in-372
returns-in-372 c = at_key guesses _ 372 c.in-372.is

pub returns-in-373 : goal.returns-in-373
returns-in-373 c = at_key guesses _ 373 c.in-373.is

pub returns-in-374 : goal.returns-in-374
returns-in-374 c = at_key guesses _ 374 c.in-374.is

pub returns-in-375 : goal.returns-in-375
returns-in-375 c = at_key guesses _ 375 c.in-375.is

pub returns-in-376 : goal.returns-in-376
returns-in-376 c = at_key guesses _ 376 c.in-376.is

pub returns-in-377 : goal.returns-in-377
returns-in-377 c = at_key guesses _ 377 c.in-377.is

pub returns-in-378 : goal.returns-in-378
returns-in-378 c = at_key guesses _ 378 c.in-378.is

pub returns-in-379 : goal.returns-in-379
returns-in-379 c = at_key guesses _ 379 c.in-379.is

pub returns-in-380 : goal.returns-in-380
returns-in-380 c = at_key guesses _ 380 c.in-380.is

pub returns-in-381 : goal.returns-in-381
returns-in-381 c = at_key guesses _ 381 c.in-381.is

pub returns-in-382 : goal.returns-in-382
returns-in-382 c = at_key guesses _ 382 c.in-382.is

pub returns-in-383 : goal.returns-in-383
returns-in-383 c = at_key guesses _ 383 c.in-383.is

pub returns-in-384 : goal.returns-in-384
returns-in-384 c = at_key guesses _ 384 c.in-384.is

pub returns-in-385 : goal.returns-in-385
returns-in-385 c = at_key guesses _ 385 c.in-385.is

pub returns-in-386 : goal.returns-in-386
returns-in-386 c = at_key guesses _ 386 c.in-386.is

pub returns-in-387 : goal.returns-in-387
returns-in-387 c = at_key guesses _ 387 c.in-387.is

pub returns-in-388 : goal.returns-in-388
returns-in-388 c = at_key guesses _ 388 c.in-388.is

pub returns-in-389 : goal.returns-in-389
returns-in-389 c = at_key guesses _ 389 c.in-389.is

pub returns-in-390 : goal.returns-in-390
returns-in-390 c = at_key guesses _ 390 c.in-390.is

pub returns-in-391 : goal.returns-in-391
returns-in-391 c = at_key guesses _ 391 c.in-391.is

pub returns-in-392 : goal.returns-in-392
returns-in-392 c = at_key guesses _ 392 c.in-392.is

pub returns-in-393 : goal.returns-in-393
returns-in-393 c = at_key guesses _ 393 c.in-393.is

pub returns-in-394 : goal.returns-in-394
returns-in-394 c = at_key guesses _ 394 c.in-394.is

pub returns-in-395 : goal.returns-in-395
returns-in-395 c = at_key guesses _ 395 c.in-395.is

pub returns-in-396 : goal.returns-in-396
returns-in-396 c = at_key guesses _ 396 c.in-396.is

pub returns-in-397 : goal.returns-in-397
returns-in-397 c = at_key guesses _ 397 c.in-397.is

pub returns-in-398 : goal.returns-in-398
returns-in-398 c = at_key guesses _ 398 c.in-398.is

pub returns-in-399 : goal.returns-in-399
returns-in-399 c = at_key guesses _ 399 c.in-399.is

pub returns-in-400 : goal.returns-in-400
returns-in-400 c = at_key guesses _ 400 c.in-400.is

pub returns-in-401 : goal.returns-in-401
returns-in-401 c = at_key guesses _ 401 c.in-401.is

pub returns-in-402 : goal.returns-in-402
returns-in-402 c = at_key guesses _ 402 c.in-402.is

pub returns-in-403 : goal.returns-in-403
returns-in-403 c = at_key guesses _ 403 c.in-403.is

pub returns-in-404 : goal.returns-in-404
returns-in-404 c = at_key guesses _ 404 c.in-404.is

pub returns-in-405 : goal.returns-in-405
returns-in-405 c = at_key guesses _ 405 c.in-405.is

pub returns-in-406 : goal.returns-in-406
returns-in-406 c = at_key guesses _ 406 c.in-406.is

pub returns-in-407 : goal.returns-in-407
returns-in-407 c = at_key guesses _ 407 c.in-407.is

pub returns-in-408 : goal.returns-in-408
returns-in-408 c = at_key guesses _ 408 c.in-408.is

pub returns-in-409 : goal.returns-in-409
returns-in-409 c = at_key guesses _ 409 c.in-409.is

pub returns-in-410 : goal.returns-in-410
returns-in-410 c = at_key guesses _ 410 c.in-410.is

pub returns-in-411 : goal.returns-in-411
returns-in-411 c = at_key guesses _ 411 c.in-411.is

pub returns-in-412 : goal.returns-in-412
returns-in-412 c = at_key guesses _ 412 c.in-412.is

pub returns-in-413 : goal.returns-in-413
returns-in-413 c = at_key guesses _ 413 c.in-413.is

pub returns-in-414 : goal.returns-in-414
returns-in-414 c = at_key guesses _ 414 c.in-414.is

pub returns-in-415 : goal.returns-in-415
returns-in-415 c = at_key guesses _ 415 c.in-415.is

pub returns-in-416 : goal.returns-in-416
returns-in-416 c = at_key guesses _ 416 c.in-416.is

pub returns-in-417 : goal.returns-in-417
returns-in-417 c = at_key guesses _ 417 c.in-417.is

pub returns-in-418 : goal.returns-in-418
returns-in-418 c = at_key guesses _ 418 c.in-418.is

pub returns-in-419 : goal.returns-in-419
returns-in-419 c = at_key guesses _ 419 c.in-419.is

pub returns-in-420 : goal.returns-in-420
returns-in-420 c = at_key guesses _ 420 c.in-420.is

pub returns-in-421 : goal.returns-in-421
returns-in-421 c = at_key guesses _ 421 c.in-421.is

pub returns-in-422 : goal.returns-in-422
returns-in-422 c = at_key guesses _ 422 c.in-422.is

pub returns-in-423 : goal.returns-in-423
returns-in-423 c = at_key guesses _ 423 c.in-423.is

pub returns-in-424 : goal.returns-in-424
returns-in-424 c = at_key guesses _ 424 c.in-424.is

pub returns-in-425 : goal.returns-in-425
returns-in-425 c = at_key guesses _ 425 c.in-425.is

pub returns-in-426 : goal.returns-in-426
returns-in-426 c = at_key guesses _ 426 c.in-426.is

pub returns-in-427 : goal.returns-in-427
returns-in-427 c = at_key guesses _ 427 c.in-427.is

pub returns-in-428 : goal.returns-in-428
returns-in-428 c = at_key guesses _ 428 c.in-428.is

pub returns-in-429 : goal.returns-in-429
returns-in-429 c = at_key guesses _ 429 c.in-429.is

pub returns-in-430 : goal.returns-in-430
returns-in-430 c = at_key guesses _ 430 c.in-430.is

pub returns-in-431 : goal.returns-in-431
returns-in-431 c = at_key guesses _ 431 c.in-431.is

pub returns-in-432 : goal.returns-in-432
returns-in-432 c = at_key guesses _ 432 c.in-432.is

pub returns-in-433 : goal.returns-in-433
returns-in-433 c = at_key guesses _ 433 c.in-433.is

pub returns-in-434 : goal.returns-in-434
returns-in-434 c = at_key guesses _ 434 c.in-434.is

pub returns-in-435 : goal.returns-in-435
returns-in-435 c = at_key guesses _ 435 c.in-435.is

pub returns-in-436 : goal.returns-in-436
returns-in-436 c = at_key guesses _ 436 c.in-436.is

pub returns-in-437 : goal.returns-in-437
returns-in-437 c = at_key guesses _ 437 c.in-437.is

pub returns-in-438 : goal.returns-in-438
returns-in-438 c = at_key guesses _ 438 c.in-438.is

pub returns-in-439 : goal.returns-in-439
returns-in-439 c = at_key guesses _ 439 c.in-439.is

pub returns-in-440 : goal.returns-in-440
returns-in-440 c = at_key guesses _ 440 c.in-440.is

pub returns-in-441 : goal.returns-in-441
returns-in-441 c = at_key guesses _ 441 c.in-441.is

pub returns-in-442 : goal.returns-in-442
returns-in-442 c = at_key guesses _ 442 c.in-442.is

pub returns-in-443 : goal.returns-in-443
returns-in-443 c = at_key guesses _ 443 c.in-443.is

pub returns-in-444 : goal.returns-in-444
returns-in-444 c = at_key guesses _ 444 c.in-444.is

pub returns-in-445 : goal.returns-in-445
returns-in-445 c = at_key guesses _ 445 c.in-445.is

pub returns-in-446 : goal.returns-in-446
returns-in-446 c = at_key guesses _ 446 c.in-446.is

pub returns-in-447 : goal.returns-in-447
returns-in-447 c = at_key guesses _ 447 c.in-447.is

pub returns-in-448 : goal.returns-in-448
returns-in-448 c = at_key guesses _ 448 c.in-448.is

pub returns-in-449 : goal.returns-in-449
returns-in-449 c = at_key guesses _ 449 c.in-449.is

pub returns-in-450 : goal.returns-in-450
returns-in-450 c = at_key guesses _ 450 c.in-450.is

pub returns-in-451 : goal.returns-in-451
returns-in-451 c = at_key guesses _ 451 c.in-451.is

pub returns-in-452 : goal.returns-in-452
returns-in-452 c = at_key guesses _ 452 c.in-452.is

pub returns-in-453 : goal.returns-in-453
returns-in-453 c = at_key guesses _ 453 c.in-453.is

pub returns-in-454 : goal.returns-in-454
returns-in-454 c = at_key guesses _ 454 c.in-454.is

pub returns-in-455 : goal.returns-in-455
returns-in-455 c = at_key guesses _ 455 c.in-455.is

pub returns-in-456 : goal.returns-in-456
returns-in-456 c = at_key guesses _ 456 c.in-456.is

pub returns-in-457 : goal.returns-in-457
returns-in-457 c = at_key guesses _ 457 c.in-457.is

pub returns-in-458 : goal.returns-in-458
returns-in-458 c = at_key guesses _ 458 c.in-458.is

pub returns-in-459 : goal.returns-in-459
returns-in-459 c = at_key guesses _ 459 c.in-459.is

pub returns-in-460 : goal.returns-in-460
returns-in-460 c = at_key guesses _ 460 c.in-460.is

pub returns-in-461 : goal.returns-in-461
returns-in-461 c = at_key guesses _ 461 c.in-461.is

pub returns-in-462 : goal.returns-in-462
returns-in-462 c = at_key guesses _ 462 c.in-462.is

pub returns-in-463 : goal.returns-in-463
returns-in-463 c = at_key guesses _ 463 c.in-463.is

pub returns-in-464 : goal.returns-in-464
returns-in-464 c = at_key guesses _ 464 c.in-464.is

pub returns-in-465 : goal.returns-in-465
returns-in-465 c = at_key guesses _ 465 c.in-465.is

pub returns-in-466 : goal.returns-in-466
returns-in-466 c = at_key guesses _ 466 c.in-466.is

pub returns-in-467 : goal.returns-in-467
returns-in-467 c = at_key guesses _ 467 c.in-467.is

pub returns-in-468 : goal.returns-in-468
returns-in-468 c = at_key guesses _ 468 c.in-468.is

pub returns-in-469 : goal.returns-in-469
returns-in-469 c = at_key guesses _ 469 c.in-469.is

pub returns-in-470 : goal.returns-in-470
returns-in-470 c = at_key guesses _ 470 c.in-470.is

pub returns-in-471 : goal.returns-in-471
returns-in-471 c = at_key guesses _ 471 c.in-471.is

pub returns-in-472 : goal.returns-in-472
returns-in-472 c = at_key guesses _ 472 c.in-472.is

pub returns-in-473 : goal.returns-in-473
returns-in-473 c = at_key guesses _ 473 c.in-473.is

pub returns-in-474 : goal.returns-in-474
returns-in-474 c = at_key guesses _ 474 c.in-474.is

pub returns-in-475 : goal.returns-in-475
returns-in-475 c = at_key guesses _ 475 c.in-475.is

pub returns-in-476 : goal.returns-in-476
returns-in-476 c = at_key guesses _ 476 c.in-476.is

pub returns-in-477 : goal.returns-in-477
returns-in-477 c = at_key guesses _ 477 c.in-477.is

pub returns-in-478 : goal.returns-in-478
returns-in-478 c = at_key guesses _ 478 c.in-478.is

pub returns-in-479 : goal.returns-in-479
returns-in-479 c = at_key guesses _ 479 c.in-479.is

pub returns-in-480 : goal.returns-in-480
returns-in-480 c = at_key guesses _ 480 c.in-480.is

pub returns-in-481 : goal.returns-in-481
returns-in-481 c = at_key guesses _ 481 c.in-481.is

pub returns-in-482 : goal.returns-in-482
returns-in-482 c = at_key guesses _ 482 c.in-482.is

pub returns-in-483 : goal.returns-in-483
returns-in-483 c = at_key guesses _ 483 c.in-483.is

pub returns-in-484 : goal.returns-in-484
returns-in-484 c = at_key guesses _ 484 c.in-484.is

pub returns-in-485 : goal.returns-in-485
returns-in-485 c = at_key guesses _ 485 c.in-485.is

pub returns-in-486 : goal.returns-in-486
returns-in-486 c = at_key guesses _ 486 c.in-486.is

pub returns-in-487 : goal.returns-in-487
returns-in-487 c = at_key guesses _ 487 c.in-487.is

pub returns-in-488 : goal.returns-in-488
returns-in-488 c = at_key guesses _ 488 c.in-488.is

pub returns-in-489 : goal.returns-in-489
returns-in-489 c = at_key guesses _ 489 c.in-489.is

pub returns-in-490 : goal.returns-in-490
returns-in-490 c = at_key guesses _ 490 c.in-490.is

pub returns-in-491 : goal.returns-in-491
returns-in-491 c = at_key guesses _ 491 c.in-491.is

pub returns-in-492 : goal.returns-in-492
returns-in-492 c = at_key guesses _ 492 c.in-492.is

pub returns-in-493 : goal.returns-in-493
returns-in-493 c = at_key guesses _ 493 c.in-493.is

pub returns-in-494 : goal.returns-in-494
returns-in-494 c = at_key guesses _ 494 c.in-494.is

pub returns-in-495 : goal.returns-in-495
returns-in-495 c = at_key guesses _ 495 c.in-495.is

pub returns-in-496 : goal.returns-in-496
returns-in-496 c = at_key guesses _ 496 c.in-496.is

pub returns-in-497 : goal.returns-in-497
returns-in-497 c = at_key guesses _ 497 c.in-497.is

pub returns-in-498 : goal.returns-in-498
returns-in-498 c = at_key guesses _ 498 c.in-498.is

pub returns-in-499 : goal.returns-in-499
returns-in-499 c = at_key guesses _ 499 c.in-499.is

pub returns-in-500 : goal.returns-in-500
returns-in-500 c = at_key guesses _ 500 c.in-500.is

pub returns-in-501 : goal.returns-in-501
returns-in-501 c = at_key guesses _ 501 c.in-501.is

pub returns-in-502 : goal.returns-in-502
returns-in-502 c = at_key guesses _ 502 c.in-502.is

pub returns-in-503 : goal.returns-in-503
returns-in-503 c = at_key guesses _ 503 c.in-503.is

pub returns-in-504 : goal.returns-in-504
returns-in-504 c = at_key guesses _ 504 c.in-504.is

pub returns-in-505 : goal.returns-in-505
returns-in-505 c = at_key guesses _ 505 c.in-505.is

pub returns-in-506 : goal.returns-in-506
returns-in-506 c = at_key guesses _ 506 c.in-506.is

pub returns-in-507 : goal.returns-in-507
returns-in-507 c = at_key guesses _ 507 c.in-507.is

pub returns-in-508 : goal.returns-in-508
returns-in-508 c = at_key guesses _ 508 c.in-508.is

pub returns-in-509 : goal.returns-in-509
returns-in-509 c = at_key guesses _ 509 c.in-509.is

pub returns-in-510 : goal.returns-in-510
returns-in-510 c = at_key guesses _ 510 c.in-510.is

pub returns-in-511 : goal.returns-in-511
returns-in-511 c = at_key guesses _ 511 c.in-511.is

pub returns-in_default : goal.returns-in_default
returns-in_default c = let past = past-keys 0 512 c.args.k (omega arith) c.in_default.in_default-own.rest in absurd (omega arith)
